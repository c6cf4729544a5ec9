use Rattle.std.proofs.Common.{◌≡◌, ◌+◌, length, replicate, refl, sym, ap, ◌∙◌, arith}
use Rattle.session_run.specs.Filled.{put_all}
use Rattle.session_run.proofs.Fills.{marked, marked_first, marked_last, total_is, order_next, fits_within}
use Rattle.session_run.proofs.threads.filled.order_of.Goals as goal

pub loop-ran-init : goal.loop-ran-init
loop-ran-init c = record {
  number = refl;
  order = λ seen p. c.in_ok-order.ensures ∙ (ap (λ n. replicate n 0) (total_is c.args.rans.now seen p) ∙ sym (marked_first (length c.args.rans.now) seen p.within));
}

pub fill-requires : goal.fill-requires
fill-requires c =
    let s = c.requires.placed in
    let before = c.loop-ran.invariant.order s.0 s.1 in
    fits_within s.0 c.args.rans.now c.loop-ran.ran-index c.ran-item.result c.as_slice.result.now c.as_mut_slice.result.now s.1 c.loop-ran-test.true c.ran-item.is c.as_slice.ensures.value (c.as_mut_slice.ensures.value ∙ before)

pub loop-ran-preserved : goal.loop-ran-preserved
loop-ran-preserved c = record {
  number = ap (λ n. n + 1) c.loop-ran.invariant.number;
  order = λ seen p. order_next seen c.args.rans.now c.loop-ran.ran-index c.ran-item.result (c.loop-ran.number + 1) c.loop-ran.order.items c.fill.new.order c.loop-ran.order.len c.as_slice.result.now p c.loop-ran-test.true
      (ap (λ n. n + 1) c.loop-ran.invariant.number) c.ran-item.is c.as_slice.ensures.value (c.loop-ran.invariant.order seen p) c.loop-ran.order.ok.0 (c.fill.ensures ∙ ap (put_all (c.loop-ran.number + 1) c.as_slice.result.now) c.as_mut_slice.ensures.value);
}

pub returns : goal.returns
returns c = λ seen p.
    let at : c.loop-ran.ran-index ≡ length c.args.rans.now = (let a = c.loop-ran.auto.ran-index-end in let b = c.loop-ran-test.false in omega arith) in
    c.of.ensures ∙ (c.loop-ran.invariant.order seen p ∙ (ap (λ n. marked (n + 1) seen) at ∙ marked_last (length c.args.rans.now) seen p.within))
