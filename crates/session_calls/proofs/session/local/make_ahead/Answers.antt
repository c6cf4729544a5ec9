use Rattle.std.proofs.Common.{sym, subst}
use Rattle.netlist_model.specs.Sound.{Fits}
use Rattle.pinned_reader.specs.Rows.{RowState}
use Rattle.session_calls.specs.Ahead.{ahead_in, FitsAhead}
use Rattle.session_calls.proofs.session.local.make_ahead.Goals as goal

pub make_on-requires : goal.make_on-requires
make_on-requires c = subst (λ (r : RowState). Fits r.library (ahead_in r c.in-Some.held.edited).insts) (sym c.deref.ensures) (subst FitsAhead c.in-Some.is c.requires)

pub returns-in-Some-clause-fits : goal.returns-in-Some-clause-fits
returns-in-Some-clause-fits c = subst (λ (r : RowState). Fits r.library (ahead_in r c.make_on.new.edited).insts) c.deref.ensures c.make_on.ensures.fits
