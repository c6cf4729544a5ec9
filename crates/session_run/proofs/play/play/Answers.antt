use Rattle.std.proofs.Common.{◌≡◌, List, [], ◌∷◌, ◌++◌, sym, ap, ◌∙◌, subst}
use Rattle.session_machine.specs.declared.replies.Reply.{Reply}
use Rattle.session_run.specs.Playing.{IsPlaying}
use Rattle.session_run.proofs.Playing.{playing_on}
use Rattle.session_run.proofs.play.play.Goals as goal

pub returns-clause-playing : goal.returns-clause-playing
returns-clause-playing g c = λ all base n script rest p.
    let replies : c.push_reserved.new.self.items ≡ c.args.player.now.replies.items ++ c.in_ok-reply.reply ∷ [] = c.push_reserved.ensures.items ∙ ap (λ (l : List Reply). l ++ c.in_ok-reply.reply ∷ []) c.reserve.ensures.items in
    subst (λ (l : List Reply). IsPlaying all c.args.hall.now.base c.reply_to.new.hall.items n script c.reply_to.new.session l rest) (sym replies)
    (playing_on all c.args.hall.now c.reply_to.new.hall n script c.args.player.now.session c.reply_to.new.session c.args.player.now.replies.items c.args.call.now rest c.in_ok-reply.reply base (c.in_ok-reply.ensures.did all base) p)
