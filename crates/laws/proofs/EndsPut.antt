-- End records put into a list of records and taken out of it: one record at a time, the sizes, and what all of them add.
-- Assumes nothing.
use Prim.Native.Nat.{ℕ, suc, ◌+◌, ◌<◌}
use mathlib.Core.Path.{◌≡◌, refl, sym, ap, ap₂, subst, ◌∙◌}
use mathlib.Core.List.{List, [], ◌∷◌, ◌++◌, append-nil}
use mathlib.Core.Bool.{Bool, true, false}
use native.Mathlib.Omega.{arith}
use borrow.Author.Tests.{eqb-true, eqb-false, lt-ltb}
use lib.Dec.{eqb, ltb}
use lib.ListN.{length}
use Rattle.std.specs.Prelude.{if◌then◌else◌}
use Rattle.dates.specs.Dates.{date, earlier}
use Rattle.figures.specs.Figures.{amount, count}
use Rattle.figures.specs.Totals.{none, ◌⊕◌, one_record}
use Rattle.figures.specs.declared.totals.Totals.{Totals}
use Rattle.figures.proofs.Laws.{⊕-assoc, ⊕-comm, none-⊕}
use Rattle.rules.specs.Codes.{record_code, kind_of}
use Rattle.rules.proofs.Codes.{twenty, no_key}
use Rattle.rules.specs.Growth.{gain_for, gain, turn_for, turn, keys_for, keys, after}
use Rattle.rules.specs.declared.Assignment.{Assignment}
use Rattle.rules.specs.declared.Kind.{Kind}
use Rattle.rules.specs.declared.Kind.TheVariants.{R10, R20, R30, R31, R40, R41, R49, R50, R88, R89, Other}
use Rattle.rules.specs.declared.State.{State}
use Rattle.operations.specs.Closing.{opens, openings, behind88, ends_before, with_ends}
use Rattle.laws.specs.Meets.{gains}
use Rattle.laws.specs.View.{Sized}
use Rattle.laws.specs.Stripped.{an_end, strip}
use Rattle.laws.proofs.EndRecords.{its88, sized_88, kind_88, its89, sized_89, kind_89}

-- ---- one record at a time
module _ (st : State) (r : List ℕ) (rs : List (List ℕ)) where
  pub put_none : ends_before st r ≡ false → with_ends st (r ∷ rs) ≡ r ∷ with_ends (after st r) rs
  unfolding with_ends
  put_none e = rw e

  pub put_88 : ends_before st r ≡ true → with_ends st (r ∷ rs) ≡ its88 st.assignment ∷ r ∷ with_ends (after (behind88 st) r) rs
  unfolding with_ends
  put_88 e = rw e

pub put_last : (st : State) → with_ends st [] ≡ its88 st.assignment ∷ its89 (behind88 st).file ∷ []
unfolding with_ends
put_last st = refl

module _ (r : List ℕ) (rs : List (List ℕ)) where
  pub kept : an_end (record_code r) ≡ false → strip (r ∷ rs) ≡ r ∷ strip rs
  unfolding strip
  kept e = rw e

  pub taken_out : an_end (record_code r) ≡ true → strip (r ∷ rs) ≡ strip rs
  unfolding strip
  taken_out e = rw e

-- ---- what an end record brings: itself, and no key
module _ (r : List ℕ) (k : kind_of r ≡ R88) where
  pub gain_88 : gain r ≡ one_record
  gain_88 = ap (λ (x : Kind). gain_for x r) k

  pub keys_88 : (ks : List ℕ) → ks ++ keys r ≡ ks
  keys_88 ks = ap (λ (x : Kind). ks ++ keys_for x r) k ∙ append-nil ks

  pub turn_88 : (a : Assignment) → turn r a ≡ turn_for R88 [] a
  turn_88 a = ap (λ (x : Kind). turn_for x r a) k

pub gain_89 : (r : List ℕ) → kind_of r ≡ R89 → gain r ≡ one_record
gain_89 r k = ap (λ (x : Kind). gain_for x r) k

-- ---- sizes
pub sized_ends : (st : State) (rs : List (List ℕ)) → Sized rs → Sized (with_ends st rs)
unfolding Sized
sized_ends st [] z = subst Sized (sym (put_last st)) (sized_88 st.assignment, (sized_89 (behind88 st).file, tt))
sized_ends st (r ∷ rs) z = go (ends_before st r) refl (sized_ends (after st r) rs z.1) (sized_ends (after (behind88 st) r) rs z.1)
  where
    go : (b : Bool) → ends_before st r ≡ b → Sized (with_ends (after st r) rs) → Sized (with_ends (after (behind88 st) r) rs) → Sized (with_ends st (r ∷ rs))
    go true e x y = subst Sized (sym (put_88 st r rs e)) (sized_88 st.assignment, (z.0, y))
    go false e x y = subst Sized (sym (put_none st r rs e)) (z.0, x)

pub sized_strip : (rs : List (List ℕ)) → Sized rs → Sized (strip rs)
unfolding Sized strip
sized_strip [] z = tt
sized_strip (r ∷ rs) z = go (an_end (record_code r)) refl (sized_strip rs z.1)
  where
    go : (b : Bool) → an_end (record_code r) ≡ b → Sized (strip rs) → Sized (strip (r ∷ rs))
    go true e x = subst Sized (sym (taken_out r rs e)) x
    go false e x = subst Sized (sym (kept r rs e)) (z.0, x)

-- ---- counted
pub gains_records : (rs : List (List ℕ)) → (gains rs).records.0 ≡ length rs
unfolding gains
gains_records [] = refl
gains_records (r ∷ rs) = go (kind_of r) (gains_records rs)
  where
    go : (k : Kind) → (gains rs).records.0 ≡ length rs → (gain_for k r).records.0 + (gains rs).records.0 ≡ suc (length rs)
    go R10 h = omega arith
    go R20 h = omega arith
    go R30 h = omega arith
    go R31 h = omega arith
    go R40 h = omega arith
    go R41 h = omega arith
    go R49 h = omega arith
    go R50 h = omega arith
    go R88 h = omega arith
    go R89 h = omega arith
    go Other h = omega arith

-- what a record opens, it adds
pub gain_opens : (r : List ℕ) → (gain r).assignments.0 ≡ (if opens r then 1 else 0)
gain_opens r = go (opens r) refl
  where
    go : (b : Bool) → eqb (record_code r) 20 ≡ b → (gain r).assignments.0 ≡ (if b then 1 else 0)
    go true e = ap (λ (x : Kind). (gain_for x r).assignments.0) (twenty (record_code r) (eqb-true (record_code r) 20 e))
    go false e = (no_key (record_code r) r (eqb-false (record_code r) 20 e)).1

pub gains_openings : (rs : List (List ℕ)) → (gains rs).assignments.0 ≡ openings rs
unfolding gains openings
gains_openings [] = refl
gains_openings (r ∷ rs) = ap₂ ◌+◌ (gain_opens r) (gains_openings rs)

-- ---- what the end records add
abbrev pub only_records : ℕ → Totals
only_records n = record { assignments = count 0; transactions = count 0; records = count n; sum = amount 0; first = date 0 }

-- one for the assignment at hand
abbrev at_hand : State → ℕ
at_hand st = if ltb 0 st.file.assignments.0 then 1 else 0

one_more : (n : ℕ) → only_records n ⊕ one_record ≡ only_records (n + 1)
unfolding earlier
one_more n = refl

shift : (x y : Totals) (n : ℕ) → one_record ⊕ (x ⊕ (y ⊕ only_records n)) ≡ (x ⊕ y) ⊕ only_records (n + 1)
shift x y n =
    ⊕-comm one_record (x ⊕ (y ⊕ only_records n))
    ∙ ap (λ (t : Totals). t ⊕ one_record) (sym (⊕-assoc x y (only_records n)))
    ∙ ⊕-assoc (x ⊕ y) (only_records n) one_record
    ∙ ap (λ (t : Totals). (x ⊕ y) ⊕ t) (one_more n)

last_two : (st : State) → gains (with_ends st []) ≡ only_records 2
unfolding gains earlier
last_two st =
    ap gains (put_last st)
    ∙ ap₂ (λ (x y : Totals). x ⊕ (y ⊕ none)) (gain_88 (its88 st.assignment) (kind_88 st.assignment)) (gain_89 (its89 (behind88 st).file) (kind_89 (behind88 st).file))

module _ (st : State) (r : List ℕ) (rs : List (List ℕ)) (n : ℕ) where
  adds_none : ends_before st r ≡ false → gains (with_ends (after st r) rs) ≡ gains rs ⊕ only_records n → gains (with_ends st (r ∷ rs)) ≡ gains (r ∷ rs) ⊕ only_records n
  unfolding gains
  adds_none e h = ap gains (put_none st r rs e) ∙ ap (λ (t : Totals). gain r ⊕ t) h ∙ sym (⊕-assoc (gain r) (gains rs) (only_records n))

  adds_88 : ends_before st r ≡ true → gains (with_ends (after (behind88 st) r) rs) ≡ gains rs ⊕ only_records n → gains (with_ends st (r ∷ rs)) ≡ gains (r ∷ rs) ⊕ only_records (n + 1)
  unfolding gains
  adds_88 e h =
      ap gains (put_88 st r rs e)
      ∙ ap₂ (λ (x y : Totals). x ⊕ (gain r ⊕ y)) (gain_88 (its88 st.assignment) (kind_88 st.assignment)) h
      ∙ shift (gain r) (gains rs) n

-- an assignment is at hand, or opens, so that each opening ends the one before it
pub record Added (st : State) (rs : List (List ℕ)) : Type 0 where
  pub ends : ℕ
  pub many : ends ≡ at_hand st + openings rs + 1
  pub adds : gains (with_ends st rs) ≡ gains rs ⊕ only_records ends

one_at_hand : (n : ℕ) → 0 < n → ◌≡◌ {A = ℕ} (if ltb 0 n then 1 else 0) 1
one_at_hand n h = rw (lt-ltb 0 n h)

pub ends_add : (st : State) (rs : List (List ℕ)) → 0 < st.file.assignments.0 + openings rs → Added st rs
unfolding openings gains
ends_add st [] h =
    let e = lt-ltb 0 st.file.assignments.0 (omega (arith, h)) in
    record { ends = 2; many = rw e; adds = last_two st ∙ sym (none-⊕ (only_records 2)) }
ends_add st (r ∷ rs) h = go (opens r) (ltb 0 st.file.assignments.0) refl refl (ends_add (after st r) rs) (ends_add (after (behind88 st) r) rs)
  where
    n : ℕ
    n = st.file.assignments.0

    Adds : State → Type 0
    Adds s = 0 < s.file.assignments.0 + openings rs → Added s rs

    go : (o b : Bool) → opens r ≡ o → ltb 0 n ≡ b → Adds (after st r) → Adds (after (behind88 st) r) → Added st (r ∷ rs)
    go true true p q ih ih88 =
        let one : ◌≡◌ {A = ℕ} (if opens r then 1 else 0) 1 = rw p in
        let g : (gain r).assignments.0 ≡ 1 = gain_opens r ∙ one in
        let v = ih88 (omega (arith, g)) in
        let here : at_hand st ≡ 1 = rw q in
        let there = one_at_hand (n + 0 + (gain r).assignments.0) (omega (arith, g)) in
        record { ends = v.ends + 1; many = omega (arith, v.many, one, here, there); adds = adds_88 st r rs v.ends (rw (p, q)) v.adds }
    go true false p q ih ih88 =
        let one : ◌≡◌ {A = ℕ} (if opens r then 1 else 0) 1 = rw p in
        let g : (gain r).assignments.0 ≡ 1 = gain_opens r ∙ one in
        let v = ih (omega (arith, g)) in
        let here : at_hand st ≡ 0 = rw q in
        let there = one_at_hand (n + (gain r).assignments.0) (omega (arith, g)) in
        record { ends = v.ends; many = omega (arith, v.many, one, here, there); adds = adds_none st r rs v.ends (rw (p, q)) v.adds }
    go false b p q ih ih88 =
        let no : ◌≡◌ {A = ℕ} (if opens r then 1 else 0) 0 = rw p in
        let g : n + (gain r).assignments.0 ≡ n = omega (arith, gain_opens r ∙ no) in
        let v = ih (omega (arith, h, g, no)) in
        let same : at_hand (after st r) ≡ at_hand st = ap (λ (m : ℕ). if ltb 0 m then 1 else 0) g in
        record { ends = v.ends; many = omega (arith, v.many, no, same); adds = adds_none st r rs v.ends (rw p) v.adds }
