-- What a caller keeps of a draft: 81 bytes for each record that was made, and they are, all of them, the records.
-- Assumes nothing.
use Prim.Native.Nat.{ℕ, ◌+◌, ◌-◌, ◌*◌, ◌≤◌}
use mathlib.Core.Path.{◌≡◌, refl, sym, ap, ◌∙◌}
use mathlib.Core.List.{List, [], ◌∷◌, ◌++◌}
use mathlib.Core.Bool.{Bool, true, false}
use native.Mathlib.Omega.{arith}
use lib.ListN.{length, take, drop, length-append}
use lib.Seq.{take_at}
use Rattle.std.specs.Prelude.{if◌then◌else◌, Ok, Err}
use Rattle.limits.specs.Limits.{record_bytes}
use Rattle.rules.specs.declared.Kind.{Kind}
use Rattle.rules.specs.declared.Kind.TheVariants.{R10, R20, R30, R31, R40, R41, R49, R50, R88, R89, Other}
use Rattle.rules.specs.declared.Refusal.{Refusal}
use Rattle.operations.specs.Making.{on_sound, make_of, recorded}
use Rattle.laws.specs.Makable.{Values, of10, of20, of30, of31, of40, of41, of49, of50}
use Rattle.laws.specs.Saved.{Saved}
use Rattle.laws.proofs.Making.{made_sized}
use Rattle.make_lines.specs.Lines.{lines_of, passed_over, bearing}
use Rattle.make_lines.specs.Draft.{is_given, fault_in, text_at, number_at, puts_of, kind_in, given_in, line_making, line_record, on_made, draft_from, records_on, records_from, enough, on_enough, bytes_on, draft_of, draft_bytes, DraftPromise}
use Rattle.make_lines.proofs.Made.{sound_given, made_room}
use Rattle.layout.specs.Findings.{Finding}
use Rattle.make_lines.specs.Draft.{Drafting}
use Rattle.operations.specs.Making.{Making}

no_truth : false ≡ true → ⊥
no_truth h = let z : ◌≡◌ {A = ℕ} 0 1 = cc in omega arith

-- the values of a line are those of its record
values_of : (k : Kind) (vs : List (List ℕ)) → is_given k ≡ true → Values k (puts_of k vs)
values_of R10 vs h = of10 (number_at 0 vs) (number_at 1 vs)
values_of R20 vs h = of20 (number_at 0 vs) (number_at 1 vs) (number_at 2 vs) (number_at 3 vs)
values_of R30 vs h = of30 (number_at 0 vs) (number_at 1 vs) (number_at 2 vs) (number_at 3 vs) (text_at 4 vs) (number_at 5 vs) (text_at 6 vs)
values_of R31 vs h = of31 (number_at 0 vs) (number_at 1 vs) (number_at 2 vs) (text_at 3 vs) (text_at 4 vs) (text_at 5 vs)
values_of R40 vs h = of40 (number_at 0 vs) (number_at 1 vs) (number_at 2 vs) (text_at 3 vs) (text_at 4 vs) (text_at 5 vs) (text_at 6 vs)
values_of R41 vs h = of41 (number_at 0 vs) (number_at 1 vs) (number_at 2 vs) (text_at 3 vs) (text_at 4 vs) (text_at 5 vs)
values_of R49 vs h = of49 (number_at 0 vs) (number_at 1 vs) (number_at 2 vs) (number_at 3 vs) (number_at 4 vs) (text_at 5 vs)
values_of R50 vs h = of50 (number_at 0 vs) (number_at 1 vs) (number_at 2 vs) (text_at 3 vs) (number_at 4 vs)
values_of R88 vs h = absurd (no_truth h)
values_of R89 vs h = absurd (no_truth h)
values_of Other vs h = absurd (no_truth h)

-- a line that makes a record makes one of 81 bytes
line_sized : (l : List ℕ) (room : ℕ) → line_making l room ≡ recorded → length (line_record l) ≡ record_bytes
line_sized l room h = go (fault_in (kind_in l) (given_in l)) refl h
  where
    go : (f : Finding) → fault_in (kind_in l) (given_in l) ≡ f → on_sound f (make_of (kind_in l) (puts_of (kind_in l) (given_in l)) room) ≡ recorded → length (line_record l) ≡ record_bytes
    go (Ok u) e m = made_sized (kind_in l) (puts_of (kind_in l) (given_in l)) (values_of (kind_in l) (given_in l) (sound_given (kind_in l) (given_in l) e)) room m
    go (Err x) e m = cc

refused_not_made : (x : Refusal) (n : ℕ) → Err x ≡ Ok n → ⊥
refused_not_made x n e = let z : ◌≡◌ {A = ℕ} 0 1 = cc in omega arith

-- the records of lines that are all made
lines_long : (ls : List (List ℕ)) (room i n m : ℕ) → draft_from room i n ls ≡ Ok m
    → (length (records_from room ls) + record_bytes * n ≡ record_bytes * m) × (length (records_from room ls) ≤ room)
unfolding draft_from records_from
lines_long [] room i n m e = let z : n ≡ m = cc in (omega arith, omega arith)
lines_long (l ∷ ls) room i n m e = go (passed_over l) (line_making l room) refl e (λ x. lines_long ls room (i + 1) n m x) (λ x. lines_long ls (room - record_bytes) (i + 1) (n + 1) m x)
  where
    go : (p : Bool) (x : Making) → line_making l room ≡ x
        → (if p then draft_from room (i + 1) n ls else on_made x (i + 1) (draft_from (room - record_bytes) (i + 1) (n + 1) ls)) ≡ Ok m
        → (draft_from room (i + 1) n ls ≡ Ok m → (length (records_from room ls) + record_bytes * n ≡ record_bytes * m) × (length (records_from room ls) ≤ room))
        → (draft_from (room - record_bytes) (i + 1) (n + 1) ls ≡ Ok m
        → (length (records_from (room - record_bytes) ls) + record_bytes * (n + 1) ≡ record_bytes * m) × (length (records_from (room - record_bytes) ls) ≤ room - record_bytes))
        → let rs = if p then records_from room ls else records_on x (line_record l) (records_from (room - record_bytes) ls) in
        (length rs + record_bytes * n ≡ record_bytes * m) × (length rs ≤ room)
    go true x q e ih next = ih e
    go false (Ok u) q e ih next =
        let v = next e in
        let a = length-append (line_record l) (records_from (room - record_bytes) ls) in
        let s = line_sized l room q in
        let r = made_room l room q in
        (omega (arith, a, s, v.0), omega (arith, a, s, r, v.1))
    go false (Err x) q e ih next = absurd (refused_not_made _ m e)

-- so many first bytes of the output are the records, all of them
pub draft_saved : (v out : List ℕ) (x : Drafting) (after : List ℕ) (n : ℕ) → DraftPromise v out x after → x ≡ Ok n → Saved (record_bytes * n) (draft_bytes v (length out)) after
unfolding draft_of draft_bytes
draft_saved v out x after n p h = go (enough (bearing (lines_of v))) (sym h ∙ p.answers) p.leaves
  where
    go : (f : Finding) → Ok n ≡ on_enough f (draft_from (length out) 0 0 (lines_of v))
        → after ≡ bytes_on f (records_from (length out) (lines_of v)) ++ drop (length (bytes_on f (records_from (length out) (lines_of v)))) out
        → Saved (record_bytes * n) (bytes_on f (records_from (length out) (lines_of v))) after
    go (Ok u) e b =
        let rs = records_from (length out) (lines_of v) in
        let w = lines_long (lines_of v) (length out) 0 0 n (sym e) in
        let l : length rs ≡ record_bytes * n = omega (arith, w.0) in
        let a = ap length b ∙ length-append rs (drop (length rs) out) in
        record {
          long = sym l;
          fits = omega (arith, a, l);
          saved = ap (take (record_bytes * n)) b ∙ take_at rs (drop (length rs) out) (record_bytes * n) l;
        }
    go (Err z) e b = absurd (refused_not_made _ n (sym e))

-- no second answer fits
pub one_answer_draft : (v out : List ℕ) (x y : Drafting) (xs ys : List ℕ) → DraftPromise v out x xs → DraftPromise v out y ys → (x ≡ y) × (xs ≡ ys)
one_answer_draft v out x y xs ys p q = (p.answers ∙ sym q.answers, p.leaves ∙ sym q.leaves)
