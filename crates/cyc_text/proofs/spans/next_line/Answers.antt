use Rattle.std.proofs.Common.{ℕ, ◌≤◌, ◌+◌, arith, refl, length, inl, inr}
use Rattle.std.proofs.lemmas.List.{length-take, length-drop}
use Rattle.cyc_text.proofs.LineLemmas.{whole_line, ends_feed, ends_return, cut_last, cut_return, cut_plain}
use Rattle.cyc_text.specs.declared.spans.LineSpan.{LineSpan}
use Rattle.cyc_text.proofs.spans.next_line.Goals as goal
use Rattle.cyc_text.proofs.spans.next_line.Goals.{then-len-gt0+then-rest-len-eq-CARRIAGE_RETURN, else-len-gt0, else-len-gt0-via-then-len-gt0+else-rest-len-eq-CARRIAGE_RETURN, else-len-gt0-via-else-len-gt0}

pub returns-then-len-rest-clause-line : goal.returns-then-len-rest-clause-line
returns-then-len-rest-clause-line c = record {
  starts = refl;
  grows = omega arith;
  ends = omega arith;
  advances = omega (arith, length-take {A = ℕ}, length-drop {A = ℕ});
  within = omega (arith, length-take {A = ℕ}, length-drop {A = ℕ});
  whole = whole_line c.args.bytes.now c.args.at c.line_len-len.result (c.args.at + c.line_len-len.result) c.line_len-len.ensures.first (omega arith);
  ended = inr (inr (record { at_end = omega (arith, length-take {A = ℕ}, length-drop {A = ℕ}); no_more = omega (arith, length-take {A = ℕ}, length-drop {A = ℕ}) }));
  cut = cut_last c.args.bytes.now c.args.at c.line_len-len.result (omega arith) c.line_len-len.ensures.first c.if-len-rest.true;
}

pub returns-clause-line : goal.returns-clause-line
returns-clause-line c =
    let n = c.line_len-len.result in
    let line : LineSpan = record { from = c.args.at; to = c.if-len-gt0.to; next = c.args.at + n + 1 } in
    let fits : c.args.at + n + 1 ≤ length c.args.bytes.now = omega (arith, length-take {A = ℕ}, length-drop {A = ℕ}) in
    elim c.if-len-gt0.branch [
      | then-len-gt0+then-rest-len-eq-CARRIAGE_RETURN w ↦ record {
        starts = refl;
        grows = omega arith;
        ends = omega arith;
        advances = omega arith;
        within = fits;
        whole = whole_line c.args.bytes.now c.args.at n _ c.line_len-len.ensures.first (omega arith);
        ended = inl (ends_return c.args.bytes.now c.args.at n line c.line_len-len.ensures.first (omega arith) w.if-len-gt0.true w.if-rest-len-eq-CARRIAGE_RETURN.true w.to-is refl);
        cut = rw w.to-is (cut_return c.args.bytes.now c.args.at n c.line_len-len.ensures.first (omega arith) w.if-len-gt0.true w.if-rest-len-eq-CARRIAGE_RETURN.true);
      }
      | else-len-gt0 w ↦ record {
        starts = refl;
        grows = omega arith;
        ends = omega arith;
        advances = omega arith;
        within = fits;
        whole = whole_line c.args.bytes.now c.args.at n _ c.line_len-len.ensures.first (omega arith);
        ended =
            inr
            (inl
            (ends_feed c.args.bytes.now c.args.at n line c.line_len-len.ensures.first (omega arith)
            (elim w.else-len-gt0.branch [
              | else-len-gt0-via-then-len-gt0+else-rest-len-eq-CARRIAGE_RETURN w' ↦ λ some. w'.if-rest-len-eq-CARRIAGE_RETURN.false
              | else-len-gt0-via-else-len-gt0 w' ↦ λ some. absurd (omega arith)
            ])
            refl w.to-is refl));
        cut =
            rw w.to-is
            (cut_plain c.args.bytes.now c.args.at n c.line_len-len.ensures.first (omega arith)
            (elim w.else-len-gt0.branch [
              | else-len-gt0-via-then-len-gt0+else-rest-len-eq-CARRIAGE_RETURN w' ↦ λ some. w'.if-rest-len-eq-CARRIAGE_RETURN.false
              | else-len-gt0-via-else-len-gt0 w' ↦ λ some. absurd (omega arith)
            ]));
      }
    ]
