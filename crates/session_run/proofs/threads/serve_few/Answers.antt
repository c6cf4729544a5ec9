use Rattle.std.proofs.Common.{◌≡◌, ◌-◌, [], ◌∷◌, ◌++◌, get_or, vec_len, sym, ap, ◌∙◌, subst, arith}
use Rattle.session_run.specs.declared.threads.jobs.Job.{Job}
use Rattle.session_run.specs.Jobs.{IsReadyJob, IsEnded}
use Rattle.session_run.proofs.Halves.{one_zip, none_zip}
use Rattle.session_run.proofs.Joins.{nil_of_length}
use Rattle.session_run.proofs.threads.serve_few.Goals.{in-Some+in_ok-serve_job, in_default}
use Rattle.session_run.proofs.threads.serve_few.Goals as goal

pub serve_job-requires-after_bounds : goal.serve_job-requires-after_bounds
serve_job-requires-after_bounds g c κs within =
    let job : Job = c.in-Some.job in
    let l = c.in-Some.ensures.len in
    let is = c.in-Some.ensures.value job (omega arith) in
    let same : job ≡ get_or c.args.jobs.items (vec_len c.args.jobs - 1) job = cc (is) in
    subst (IsReadyJob c.args.book.now) (sym same) (c.requires.ready (vec_len c.args.jobs - 1) job (let k = c.args.jobs.ok.0 in omega arith))

pub returns : goal.returns
returns g c = elim c.match-pop.branch [
  | in-Some+in_ok-serve_job w ↦
      one_zip (IsEnded c.args.book.now) c.args.jobs.items c.pop.new.self.items w.in-Some.job c.match-pop.done.items w.in_ok-serve_job.field-0 w.in-Some.ensures.items c.requires.few
      (ap (λ v. v.items) w.done-is ∙ (w.push_reserved.ensures.items ∙ ap (λ l. l ++ w.in_ok-serve_job.field-0 ∷ []) c.in_ok-done.ensures.items)) w.in_ok-serve_job.ensures
  | in_default w ↦ none_zip (IsEnded c.args.book.now) c.args.jobs.items c.match-pop.done.items (nil_of_length c.args.jobs.items (sym c.args.jobs.ok.0 ∙ w.in_default.ensures.cases.0)) (ap (λ v. v.items) w.done-is ∙ c.in_ok-done.ensures.items)
]
