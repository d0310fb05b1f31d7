-- Demand 3 for parting, on bytes: parted exactly at a boundary, else refused with the first reason; both parts are accepted, and joined again they are the file.
-- Assumes nothing.
use Prim.Native.Nat.{ℕ, ◌+◌, ◌*◌, ◌≤◌, ◌<◌}
use mathlib.Core.Path.{◌≡◌, refl, sym, ap, subst, ◌∙◌}
use mathlib.Core.Logic.{◌↔◌, inl, inr}
use mathlib.Core.List.{List, ◌++◌}
use mathlib.Core.Bool.{Bool, true, false, ◌&&◌}
use native.Mathlib.Omega.{arith}
use borrow.Author.Tests.{leb-true, leb-false, le-leb, lt-leb, ltb-true, ltb-false, lt-ltb, le-ltb}
use lib.Dec.{leb, ltb}
use lib.ListN.{length, drop, length-append}
use Rattle.std.specs.Prelude.{if◌then◌else◌, Some, Ok, Err}
use Rattle.fields.proofs.Tests.{and_both}
use Rattle.dates.specs.Windows.{window_of}
use Rattle.dates.specs.declared.ProcessDay.{ProcessDay}
use Rattle.dates.specs.declared.Window.{Window}
use Rattle.figures.specs.declared.counts.Count.{Count}
use Rattle.figures.specs.declared.totals.Totals.{Totals}
use Rattle.limits.specs.Limits.{record_bytes}
use Rattle.rules.specs.Run.{check_of}
use Rattle.rules.specs.declared.Refusal.{Refusal}
use Rattle.operations.specs.Joining.{both, join_of, joined_file}
use Rattle.operations.specs.Parting.{first_part, second_part, of_check, not_parted, no_boundary, Refuses, part_of, lent_parted, parted_first, parted_second}
use Rattle.laws.specs.View.{figures_of}
use Rattle.laws.specs.Joinable.{BothAccepted}
use Rattle.laws.specs.Partable.{Boundary, PartRefusing, own_refusal, no_such_boundary, short_parts, PartsAccepted}
use Rattle.laws.proofs.Demand2.{accepting}
use Rattle.laws.proofs.Made.{file_of, View, view, both_are}
use Rattle.laws.proofs.Joined.{view_checks, view_length, view_body, view_head, view_records, joinable, file_joined, accepts}
use Rattle.laws.proofs.Cuts.{first_of, others_of, CutBody, cut_body}
use Rattle.operations.specs.Parting.{Parting}
use Rattle.rules.specs.Refusals.{Verdict}
use Rattle.operations.specs.declared.NotParted.TheVariants.{NoBoundary, Refused}
use Rattle.layout.specs.declared.Reason.TheVariants.{NoRoom}

-- ---- what parting answers
first_fails : (p q : Bool) → p ≡ false → p && q ≡ false
first_fails p q e = rw e

second_fails : (p q : Bool) → q ≡ false → p && q ≡ false
second_fails true q e = e
second_fails false q e = refl

boundary : (k : ℕ) (t : Totals) → Boundary k t → leb 1 k && ltb k t.assignments.0 ≡ true
boundary k t h = and_both _ _ (le-leb 1 k h.some) (lt-ltb k t.assignments.0 h.others)

module _ (day : ProcessDay) (b : List ℕ) (k room1 room2 : ℕ) where
  -- the two tests: a boundary, and room for both parts
  abbrev tested : Totals → Bool → Bool → Parting
  tested t c d = if c then (if d then Ok ((length (first_part k b)), (length (second_part k b))) else not_parted NoRoom) else Err (NoBoundary t.assignments)

  part_is : (t : Totals) (c d : Bool) → check_of day b ≡ Ok t → leb 1 k && ltb k t.assignments.0 ≡ c
      → leb (length (first_part k b)) room1 && leb (length (second_part k b)) room2 ≡ d → part_of day b k room1 room2 ≡ tested t c d
  unfolding part_of
  part_is t c d e p q =
      ap (λ (v : Verdict). of_check v (λ t. tested t (leb 1 k && ltb k t.assignments.0) (leb (length (first_part k b)) room1 && leb (length (second_part k b)) room2))) e
      ∙ (λ i. tested t (p i) (q i))

  own_is : (x : Refusal) → check_of day b ≡ Err x → part_of day b k room1 room2 ≡ Err (Refused x)
  unfolding part_of
  own_is x e = ap (λ (v : Verdict). of_check v (λ t. tested t (leb 1 k && ltb k t.assignments.0) (leb (length (first_part k b)) room1 && leb (length (second_part k b)) room2))) e

  data Answer : Parting → Type 0 where
    parted : (t : Totals) → check_of day b ≡ Ok t → Boundary k t → length (first_part k b) ≤ room1 → length (second_part k b) ≤ room2 → Answer (Ok ((length (first_part k b)), (length (second_part k b))))
    unbounded : (t : Totals) → check_of day b ≡ Ok t → PartRefusing day b k room1 room2 no_boundary → Answer (Err (NoBoundary t.assignments))
    is_not_parted : (x : Refusal) → PartRefusing day b k room1 room2 x → Answer (Err (Refused x))

  answer : Answer (part_of day b k room1 room2)
  answer = go (check_of day b) refl
    where
      rooms : (t : Totals) (x y : Bool) → check_of day b ≡ Ok t → Boundary k t → leb (length (first_part k b)) room1 ≡ x → leb (length (second_part k b)) room2 ≡ y
          → Answer (tested t true (x && y))
      rooms t true true e h p q = parted t e h (leb-true _ _ p) (leb-true _ _ q)
      rooms t true false e h p q = is_not_parted _ (short_parts t e h (inr (leb-false _ _ q)))
      rooms t false y e h p q = is_not_parted _ (short_parts t e h (inl (leb-false _ _ p)))

      bounds : (t : Totals) (x y : Bool) → check_of day b ≡ Ok t → leb 1 k ≡ x → ltb k t.assignments.0 ≡ y
          → Answer (tested t (x && y) (leb (length (first_part k b)) room1 && leb (length (second_part k b)) room2))
      bounds t true true e p q = rooms t _ _ e record { some = leb-true _ _ p; others = ltb-true _ _ q } refl refl
      bounds t true false e p q = unbounded t e (no_such_boundary t e (inr (ltb-false _ _ q)))
      bounds t false y e p q = let z = leb-false 1 k p in unbounded t e (no_such_boundary t e (inl (omega (arith, z))))

      go : (v : Verdict) → check_of day b ≡ v → Answer (part_of day b k room1 room2)
      go (Ok t) e = subst Answer (sym (part_is t _ _ e refl refl)) (bounds t _ _ e refl refl)
      go (Err x) e = subst Answer (sym (own_is x e)) (is_not_parted x (own_refusal x e))

  -- each reason has its answer
  told : (v : Parting) (x : Refusal) → Refuses v x → part_of day b k room1 room2 ≡ v → Refuses (part_of day b k room1 room2) x
  told v x h e = subst (λ (p : Parting). Refuses p x) (sym e) h

  refuses_so : (x : Refusal) → PartRefusing day b k room1 room2 x → Refuses (part_of day b k room1 room2) x
  unfolding Refuses
  refuses_so x (own_refusal y e) = told _ x refl (own_is x e)
  refuses_so x (no_such_boundary t e (inl z)) = told _ x refl (part_is t _ _ e (first_fails _ _ (lt-leb 1 k (omega (arith, z)))) refl)
  refuses_so x (no_such_boundary t e (inr z)) = told _ x refl (part_is t _ _ e (second_fails (leb 1 k) _ (le-ltb k t.assignments.0 z)) refl)
  refuses_so x (short_parts t e h (inl z)) = told _ x refl (part_is t _ _ e (boundary k t h) (first_fails _ _ (lt-leb _ _ z)))
  refuses_so x (short_parts t e h (inr z)) = told _ x refl (part_is t _ _ e (boundary k t h) (second_fails (leb (length (first_part k b)) room1) _ (lt-leb _ _ z)))

-- a refusal names the first reason in the stated order
pub part_order : (day : ProcessDay) (b : List ℕ) (k room1 room2 : ℕ) (x : Refusal) → Refuses (part_of day b k room1 room2) x ↔ PartRefusing day b k room1 room2 x
unfolding Refuses
part_order day b k room1 room2 x = (go (part_of day b k room1 room2) (answer day b k room1 room2), refuses_so day b k room1 room2 x)
  where
    go : (v : Parting) → Answer day b k room1 room2 v → Refuses v x → PartRefusing day b k room1 room2 x
    go v (parted t a h p q) e = absurd e
    go v (unbounded t a r) e = subst (PartRefusing day b k room1 room2) e r
    go v (is_not_parted y r) e = subst (PartRefusing day b k room1 room2) e r

-- ---- parted exactly
same_figures : (day : ProcessDay) (b : List ℕ) (t u : Totals) → check_of day b ≡ Ok t → check_of day b ≡ Ok u → t ≡ u
same_figures day b t u e f = cc

module _ (day : ProcessDay) (b : List ℕ) (t : Totals) (k room1 room2 : ℕ) (e : check_of day b ≡ Ok t) where
  at_boundary : (n m : ℕ) → part_of day b k room1 room2 ≡ Ok (n, m) → Boundary k t × (length (first_part k b) ≤ room1) × (length (second_part k b) ≤ room2)
  at_boundary n m h = go (part_of day b k room1 room2) (answer day b k room1 room2) h
    where
      go : (v : Parting) → Answer day b k room1 room2 v → v ≡ Ok (n, m) → Boundary k t × (length (first_part k b) ≤ room1) × (length (second_part k b) ≤ room2)
      go v (parted u f h p q) z = (subst (Boundary k) (same_figures day b u t f e) h, p, q)
      go v (unbounded u f r) z = absurd (let x : ◌≡◌ {A = ℕ} 0 1 = cc in omega arith)
      go v (is_not_parted y r) z = absurd (let x : ◌≡◌ {A = ℕ} 0 1 = cc in omega arith)

  -- an accepted file, with room enough, is parted exactly where k and what is left are assignments of it
  pub parted_exactly : length (first_part k b) ≤ room1 → length (second_part k b) ≤ room2 → (part_of day b k room1 room2 ≡ Ok ((length (first_part k b)), (length (second_part k b)))) ↔ Boundary k t
  parted_exactly p q = (λ h. (at_boundary _ _ h).0, λ h. part_is day b k room1 room2 t _ _ e (boundary k t h) (and_both _ _ (le-leb _ _ p) (le-leb _ _ q)))

abbrev first_size : Parting → ℕ
first_size (Ok sizes) = sizes.0
first_size (Err e) = 0

abbrev second_size : Parting → ℕ
second_size (Ok sizes) = sizes.1
second_size (Err e) = 0

-- the answer's numbers: how long the two parts are, each within its output, and how many assignments the file has where k is no boundary of it
pub part_lengths : (day : ProcessDay) (b : List ℕ) (k room1 room2 n m : ℕ) → part_of day b k room1 room2 ≡ Ok (n, m)
    → (n ≡ length (first_part k b)) × (m ≡ length (second_part k b)) × (length (first_part k b) ≤ room1) × (length (second_part k b) ≤ room2)
part_lengths day b k room1 room2 n m = go (part_of day b k room1 room2) (answer day b k room1 room2)
  where
    go : (v : Parting) → Answer day b k room1 room2 v → v ≡ Ok (n, m) → (n ≡ length (first_part k b)) × (m ≡ length (second_part k b)) × (length (first_part k b) ≤ room1) × (length (second_part k b) ≤ room2)
    go v (parted u f h p q) z = (sym (ap first_size z), sym (ap second_size z), p, q)
    go v (unbounded u f r) z = absurd (let x : ◌≡◌ {A = ℕ} 0 1 = cc in omega arith)
    go v (is_not_parted y r) z = absurd (let x : ◌≡◌ {A = ℕ} 0 1 = cc in omega arith)

pub part_assignments : (day : ProcessDay) (b : List ℕ) (t : Totals) (k room1 room2 : ℕ) (c : Count) → check_of day b ≡ Ok t → part_of day b k room1 room2 ≡ Err (NoBoundary c) → c ≡ t.assignments
part_assignments day b t k room1 room2 c e = go (part_of day b k room1 room2) (answer day b k room1 room2)
  where
    go : (v : Parting) → Answer day b k room1 room2 v → v ≡ Err (NoBoundary c) → c ≡ t.assignments
    go v (parted u f h p q) z = absurd (let x : ◌≡◌ {A = ℕ} 0 1 = cc in omega arith)
    go v (unbounded u f r) z = cc
    go v (is_not_parted y r) z = absurd (let x : ◌≡◌ {A = ℕ} 0 1 = cc in omega arith)

-- ---- the two parts
module _ (w : Window) (b : List ℕ) (t : Totals) (k : ℕ) (v : View w b t) (h : Boundary k t) where
  cut : CutBody w v.head v.body k
  cut = cut_body w v.head v.body k v.good h.some (omega (arith, h.others, ap (λ (x : Totals). x.assignments.0) v.figures))

  -- each part has the file's record 10 and its share of the body
  parts_are : (first_part k b ≡ file_of v.head (first_of k v.body)) × (second_part k b ≡ file_of v.head (others_of k v.body))
  unfolding first_part second_part
  parts_are =
      let x = view_head w b t v in
      let y = view_body w b t v in
      ((λ i. file_of (x i) (first_of k (y i))), (λ i. file_of (x i) (others_of k (y i))))

  abbrev first_view : View w (first_part k b) (figures_of (first_of k v.body))
  first_view = record { head = v.head; body = first_of k v.body; good = cut.cut.front; bytes = parts_are.0; figures = refl }

  abbrev second_view : View w (second_part k b) (figures_of (others_of k v.body))
  second_view = record { head = v.head; body = others_of k v.body; good = cut.cut.back; bytes = parts_are.1; figures = refl }

  parts_accepted : (day : ProcessDay) → window_of day ≡ Some w → PartsAccepted day b k t
  parts_accepted day o =
      let x = figures_of (first_of k v.body) in
      let y = figures_of (others_of k v.body) in
      let lx = view_length w (first_part k b) x first_view in
      let ly = view_length w (second_part k b) y second_view in
      let n : length v.body ≡ length (first_of k v.body) + length (others_of k v.body) = sym (ap length cut.whole) ∙ length-append (first_of k v.body) (others_of k v.body) in
      record {
        first = x;
        second = y;
        first_accepted = view_checks w (first_part k b) x first_view day o;
        second_accepted = view_checks w (second_part k b) y second_view day o;
        first_many = omega (arith, cut.first_many);
        second_many = omega (arith, cut.others_many, ap (λ (u : Totals). u.assignments.0) v.figures);
        first_length = lx;
        second_length = ly;
        both_lengths =
            omega
            (arith, lx, ly, view_length w b t v, view_records w b t v, n, view_records w (first_part k b) x first_view, view_records w (second_part k b) y second_view);
        first_shorter = omega (arith, lx, view_length w b t v, view_records w b t v, n, view_records w (first_part k b) x first_view);
        second_shorter = omega (arith, ly, view_length w b t v, view_records w b t v, n, view_records w (second_part k b) y second_view);
      }

  -- and joined they are the file again
  joins_again : (day : ProcessDay) (room : ℕ) → window_of day ≡ Some w → length b ≤ room
      → (join_of day (first_part k b) (second_part k b) room ≡ Ok t) × (joined_file (first_part k b) (second_part k b) t ≡ b)
  joins_again day room o fits =
      let x = figures_of (first_of k v.body) in
      let y = figures_of (others_of k v.body) in
      let j = joinable w (first_part k b) (second_part k b) x y first_view second_view refl cut.cut.together in
      let u : both x y ≡ t = both_are (first_of k v.body) (others_of k v.body) ∙ ap figures_of cut.whole ∙ sym v.figures in
      let c : BothAccepted day (first_part k b) (second_part k b) x y = record {
        first = view_checks w (first_part k b) x first_view day o;
        second = view_checks w (second_part k b) y second_view day o;
      } in (
        accepts day (first_part k b) (second_part k b) room x y c j (omega (arith, ap (λ (z : Totals). z.records.0) u, view_length w b t v, fits)) ∙ ap Ok u,
        ap (joined_file (first_part k b) (second_part k b)) (sym u)
            ∙ file_joined w (first_part k b) (second_part k b) x y first_view second_view j
            ∙ ap (file_of v.head) cut.whole
            ∙ sym v.bytes,
      )

-- ---- THE THEOREMS
module _ (day : ProcessDay) (b : List ℕ) (t : Totals) (k room1 room2 n m : ℕ) (e : check_of day b ≡ Ok t) (h : part_of day b k room1 room2 ≡ Ok (n, m)) where
  -- both parts of a parted file are accepted, the first with k assignments, the second with the others
  pub parted_accepted : PartsAccepted day b k t
  parted_accepted =
      let a = accepting day b t e in
      parts_accepted a.window b t k (view day a.window b t a.opened e) (at_boundary day b t k room1 room2 e n m h).0 day a.opened

  -- together they are a record 10 and an 89 longer than the file, and each fits into its output
  pub parted_fits : (length (first_part k b) + length (second_part k b) ≡ length b + 2 * record_bytes) × (length (first_part k b) ≤ room1) × (length (second_part k b) ≤ room2)
  parted_fits = let v = at_boundary day b t k room1 room2 e n m h in (parted_accepted.both_lengths, v.1, v.2)

-- outputs as long as the file are always enough
pub part_room_enough : (day : ProcessDay) (b : List ℕ) (t : Totals) (k room1 room2 : ℕ) → check_of day b ≡ Ok t → Boundary k t → length b ≤ room1 → length b ≤ room2
    → part_of day b k room1 room2 ≡ Ok ((length (first_part k b)), (length (second_part k b)))
part_room_enough day b t k room1 room2 e h p q =
    let a = accepting day b t e in
    let c = parts_accepted a.window b t k (view day a.window b t a.opened e) h day a.opened in
    (parted_exactly day b t k room1 room2 e (omega (arith, p, c.first_shorter)) (omega (arith, q, c.second_shorter))).1 h

-- a file parted and joined again is the file, with its figures
pub parted_joins : (day : ProcessDay) (b : List ℕ) (t : Totals) (k room : ℕ) → check_of day b ≡ Ok t → 1 ≤ k → k < t.assignments.0 → length b ≤ room
    → (join_of day (first_part k b) (second_part k b) room ≡ Ok t) × (joined_file (first_part k b) (second_part k b) t ≡ b)
parted_joins day b t k room e p q fits =
    let a = accepting day b t e in
    joins_again a.window b t k (view day a.window b t a.opened e) record { some = p; others = q } day room a.opened fits

-- ---- the lent outputs
-- each part lies over the start of its output, and the bytes behind it stay
pub parted_bytes : (day : ProcessDay) (b : List ℕ) (k : ℕ) (out1 out2 : List ℕ) (n m : ℕ) → part_of day b k (length out1) (length out2) ≡ Ok (n, m)
    → (parted_first day b k out1 out2 ≡ first_part k b ++ drop (length (first_part k b)) out1) × (parted_second day b k out1 out2 ≡ second_part k b ++ drop (length (second_part k b)) out2)
unfolding parted_first parted_second lent_parted
parted_bytes day b k out1 out2 n m e = (ap (λ (x : Parting). lent_parted x (first_part k b) out1) e, ap (λ (x : Parting). lent_parted x (second_part k b) out2) e)

untouched : (p : Parting) (x : Refusal) → Refuses p x → (written before : List ℕ) → lent_parted p written before ≡ before
unfolding Refuses lent_parted
untouched (Ok e) x h written before = absurd h
untouched (Err (NoBoundary c)) x h written before = refl
untouched (Err (Refused y)) x h written before = refl

-- a refusal changes neither
pub part_refused : (day : ProcessDay) (b : List ℕ) (k : ℕ) (out1 out2 : List ℕ) (x : Refusal) → Refuses (part_of day b k (length out1) (length out2)) x
    → (parted_first day b k out1 out2 ≡ out1) × (parted_second day b k out1 out2 ≡ out2)
unfolding parted_first parted_second
part_refused day b k out1 out2 x = go (part_of day b k (length out1) (length out2))
  where
    go : (p : Parting) → Refuses p x → (lent_parted p (first_part k b) out1 ≡ out1) × (lent_parted p (second_part k b) out2 ≡ out2)
    go p h = (untouched p x h (first_part k b) out1, untouched p x h (second_part k b) out2)
