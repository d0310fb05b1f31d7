-- What parting answers, in the order of its refusals, and what it leaves in both outputs.
-- Assumes nothing.
use Prim.Native.Nat.{ℕ, ◌+◌, ◌*◌, ◌≤◌, ◌<◌}
use mathlib.Core.Path.{◌≡◌, refl, sym, ap, ap₂, subst, ◌∙◌}
use mathlib.Core.List.{List}
use mathlib.Core.Bool.{Bool, true, false, ◌&&◌}
use native.Mathlib.Omega.{arith}
use borrow.Author.Tests.{leb-true, ltb-true}
use lib.Dec.{leb, ltb}
use lib.ListN.{length, take, length-take}
use Rattle.std.specs.Prelude.{if◌then◌else◌, Ok, Err}
use Rattle.fields.proofs.Tests.{and_left, and_right}
use Rattle.dates.specs.declared.ProcessDay.{ProcessDay}
use Rattle.figures.specs.declared.totals.Totals.{Totals}
use Rattle.laws.proofs.Bytes.{bytes_length}
use Rattle.laws.proofs.Made.{file_body, body_records}
use Rattle.laws.proofs.Slices.{body_in, body_is, long_enough}
use Rattle.laws.proofs.View.{viewed}
use Rattle.operations.specs.Joining.{assignments_of}
use Rattle.operations.specs.Parting.{of_check, not_parted, first_part, second_part, part_of, lent_parted, parted_first, parted_second}
use Rattle.operations.specs.Promises.{PartPromise}
use Rattle.rules.specs.Growth.{gains, start}
use Rattle.rules.specs.Run.{records_of, check_of}
use Rattle.rules.specs.declared.Refusal.{Refusal}
use Rattle.run_figures.specs.Blocks.{blocks}
use Rattle.run_loop.specs.Left.{Left, Roomy}
use Rattle.run_figures.specs.Slots.{Holding}
use Rattle.run_figures.proofs.Held.{held}
use Rattle.part_divide.specs.Halves.{HalfSums, Divisible, first_half, second_half, divided}
use Rattle.part_file.proofs.HalfSums.{half_sums}
use Rattle.operations.specs.Parting.{Parting}
use Rattle.rules.specs.Refusals.{Verdict}
use Rattle.operations.specs.declared.NotParted.TheVariants.{NoBoundary, Refused}
use Rattle.layout.specs.declared.Reason.TheVariants.{NoRoom}

-- ---- the assignments of an accepted file
module _ (day : ProcessDay) (b : List ℕ) (t : Totals) (e : check_of day b ≡ Ok t) where
  pub divisible : (keys figures : List ℕ) (v : Verdict) → v ≡ Ok t → Left b keys figures v → Roomy figures → (k : ℕ) → (1 ≤ k) × (k < t.assignments.0) → Divisible (take 81 b) (body_in b) figures k t.assignments.0
  divisible keys figures x q left room k (n, h) =
      let v = viewed day b t e in
      let g = v.good in
      let i : records_of (body_in b) ≡ v.body = ap records_of (body_is b) ∙ ap (λ (x : List ℕ). records_of (assignments_of x)) v.bytes ∙ body_records v.window v.head v.body g in
      let l : length (body_in b) ≡ 81 * length v.body =
      ap length (body_is b ∙ ap assignments_of v.bytes ∙ file_body v.window v.head v.body g) ∙ bytes_length v.body g.sized in
      let a : t.assignments.0 ≡ (gains v.body).assignments.0 = ap (λ (x : Totals). x.assignments.0) v.figures ∙ omega arith in
      let hold = subst (λ (rs : List (List ℕ)). Holding figures 0 (blocks start.assignment rs)) v.is (held figures (5 * (t.assignments.0 + 1)) _ (left.figured t q room)) in
      record {
        ten = length-take 81 b ∙ omega (arith, long_enough day b t e);
        whole = omega (arith, l);
        few = omega (arith, l, g.few);
        sums = subst (HalfSums figures k t.assignments.0) (sym i) (half_sums v.window v.head v.body g k t.assignments.0 n h a figures hold);
      }

-- a boundary, as it is tested
pub has_boundary : (k n : ℕ) (x : Bool) → x ≡ leb 1 k && ltb k n → x ≡ true → (1 ≤ k) × (k < n)
has_boundary k n x e h = let q = sym e ∙ h in (leb-true 1 k (and_left (leb 1 k) (ltb k n) q), ltb-true k n (and_right (leb 1 k) (ltb k n) q))

-- ---- the answer, and both outputs behind it
module _ (day : ProcessDay) (b : List ℕ) (k : ℕ) (first second : List ℕ) where
  abbrev Promised : Parting → List ℕ → List ℕ → Type 0
  Promised x one two = PartPromise day b k first second x one two

  abbrev behind_check : Totals → Parting
  behind_check t =
      if leb 1 k && ltb k t.assignments.0 then
      (if leb (length (first_part k b)) (length first) && leb (length (second_part k b)) (length second) then Ok ((length (first_part k b)), (length (second_part k b))) else not_parted NoRoom)
      else Err (NoBoundary t.assignments)

  -- an answer that is no parting leaves both outputs as they were
  leaves : (x : Parting) → part_of day b k (length first) (length second) ≡ x → ((written before : List ℕ) → lent_parted x written before ≡ before) → Promised x first second
  unfolding parted_first parted_second
  leaves x q stays =
      record {
        answers = sym q;
        leaves_first = sym (ap (λ (y : Parting). lent_parted y (first_part k b) first) q ∙ stays (first_part k b) first);
        leaves_second = sym (ap (λ (y : Parting). lent_parted y (second_part k b) second) q ∙ stays (second_part k b) second);
      }

  module _ (v : Verdict) (c : v ≡ check_of day b) where
    pub was_refused : (r : Refusal) → v ≡ Err r → Promised (Err (Refused r)) first second
    unfolding part_of lent_parted
    was_refused r e = leaves (Err (Refused r)) (ap (λ (y : Verdict). of_check y behind_check) (sym c ∙ e)) (λ w d. refl)

    module _ (t : Totals) (e : v ≡ Ok t) (x : Bool) (at : x ≡ leb 1 k && ltb k t.assignments.0) where
      abbrev halves : Parting
      halves = divided (take 81 b) (assignments_of b) k (length first) (length second)

      by_boundary : part_of day b k (length first) (length second) ≡ (if x then halves else Err (NoBoundary t.assignments))
      unfolding part_of divided first_half second_half first_part second_part
      by_boundary = ap (λ (y : Verdict). of_check y behind_check) (sym c ∙ e) ∙ ap (λ (y : Bool). if y then halves else Err (NoBoundary t.assignments)) (sym at)

      pub outside : x ≡ false → Promised (Err (NoBoundary t.assignments)) first second
      unfolding lent_parted
      outside h = leaves (Err (NoBoundary t.assignments)) (by_boundary ∙ ap (λ (y : Bool). if y then halves else Err (NoBoundary t.assignments)) h) (λ w d. refl)

      pub parts : x ≡ true → (p : Parting) (one two : List ℕ) → p ≡ divided (take 81 b) (body_in b) k (length first) (length second)
          → one ≡ lent_parted p (first_half (take 81 b) (body_in b) k) first → two ≡ lent_parted p (second_half (take 81 b) (body_in b) k) second → Promised p one two
      unfolding parted_first parted_second first_half second_half first_part second_part
      parts h p one two d i j =
          let q : p ≡ part_of day b k (length first) (length second) =
          d ∙ ap (λ (y : List ℕ). divided (take 81 b) y k (length first) (length second)) (body_is b)
          ∙ sym (by_boundary ∙ ap (λ (y : Bool). if y then halves else Err (NoBoundary t.assignments)) h) in
          record {
            answers = q;
            leaves_first = i ∙ ap₂ (λ (y : Parting) (z : List ℕ). lent_parted y (first_half (take 81 b) z k) first) q (body_is b);
            leaves_second = j ∙ ap₂ (λ (y : Parting) (z : List ℕ). lent_parted y (second_half (take 81 b) z k) second) q (body_is b);
          }
