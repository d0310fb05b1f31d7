-- A value too long, a broken rule, too little room, or the record.
-- Assumes nothing.
use Prim.Native.Nat.{ℕ}
use mathlib.Core.Path.{sym, ap, ◌∙◌}
use mathlib.Core.List.{[], ◌++◌}
use borrow.Author.Tests.{le-leb, lt-leb}
use lib.ListN.{drop}
use Rattle.std.proofs.Common.{arith, Err}
use Rattle.figures.specs.Totals.{none}
use Rattle.layout.specs.Findings.{Finding}
use Rattle.operations.specs.Making.{on_sound, recorded}
use Rattle.make_values.proofs.Laws.{each_fits}
use Rattle.make_record.proofs.Promised.{broken_promised, goes_on, long_promised, made_promised, short_promised}
use Rattle.make_record.proofs.make.Goals as goal

pub returns-in_err-refusing : goal.returns-in_err-refusing
returns-in_err-refusing g c = long_promised _ _ _ (ap (λ (f : Finding). on_sound f recorded) (sym c.too_long.ensures) ∙ sym c.refusing.ensures ∙ c.in_err-refusing.was) (grind arith)

pub put-requires : goal.put-requires
put-requires g c = g.met.V.Values.fitting c.args.values.now (each_fits _ (sym c.too_long.ensures ∙ goes_on _ _ (sym c.refusing.ensures ∙ c.in_ok-refusing.was)))

pub returns-in_err-refusing-2 : goal.returns-in_err-refusing-2
returns-in_err-refusing-2 g c =
    broken_promised _ _ _ (sym c.too_long.ensures ∙ goes_on _ _ (sym c.refusing.ensures ∙ c.in_ok-refusing.was)) c.put.ensures (c.own.ensures none [])
    (sym c.refusing-2.ensures ∙ c.in_err-refusing-2.was) (grind arith)

pub returns-then-out-lt-RECORD_BYTES : goal.returns-then-out-lt-RECORD_BYTES
returns-then-out-lt-RECORD_BYTES g c =
    short_promised _ _ _ (sym c.too_long.ensures ∙ goes_on _ _ (sym c.refusing.ensures ∙ c.in_ok-refusing.was)) c.put.ensures (c.own.ensures none [])
    (goes_on _ _ (sym c.refusing-2.ensures ∙ c.in_ok-refusing-2.was)) (lt-leb _ _ c.if-out-lt-RECORD_BYTES.true) (ap Err c.whole.ensures)

pub returns : goal.returns
returns g c =
    made_promised _ _ _ (sym c.too_long.ensures ∙ goes_on _ _ (sym c.refusing.ensures ∙ c.in_ok-refusing.was)) c.put.ensures (c.own.ensures none [])
    (goes_on _ _ (sym c.refusing-2.ensures ∙ c.in_ok-refusing-2.was)) (le-leb _ _ c.if-out-lt-RECORD_BYTES.false)
    (c.copy_to.ensures ∙ ap (λ (n : ℕ). c.put.new.r ++ drop n c.args.out.now) c.put.array_long)
