-- A body of whole assignments, cut behind its k-th 88: the k assignments before it and the others are bodies of whole assignments.
-- Assumes nothing.
use Prim.Native.Nat.{ℕ, suc, ◌+◌, ◌-◌, ◌≤◌, ◌<◌}
use mathlib.Core.Path.{◌≡◌, refl, sym, ap, subst, ◌∙◌}
use mathlib.Core.List.{List, [], ◌∷◌, ◌++◌}
use mathlib.Core.Bool.{Bool, true, false, ◌||◌, true≢false}
use native.Mathlib.Omega.{arith}
use borrow.Author.Tests.{eqb-true, eqb-false, ne_eqb}
use lib.Dec.{eqb}
use lib.ListN.{take, drop, take-append-drop}
use Rattle.std.specs.Prelude.{if◌then◌else◌}
use Rattle.dates.specs.declared.Window.{Window}
use Rattle.fields.specs.Bytes.{every}
use Rattle.figures.specs.Totals.{◌⊕◌, one_record}
use Rattle.figures.specs.declared.totals.Totals.{Totals}
use Rattle.layout.specs.Rows.{member, AllHold}
use Rattle.rules.specs.Codes.{record_code, kind_for, kind_of, number_of_kind}
use Rattle.rules.specs.Order.{may_follow}
use lib.Seq.{take-nil}
use Rattle.rules.specs.Growth.{gain, turn, keys}
use Rattle.rules.specs.declared.Assignment.{Assignment}
use Rattle.rules.specs.declared.Kind.{Kind}
use Rattle.rules.specs.declared.Kind.TheVariants.{R20, R88, Other}
use Rattle.rules.specs.declared.Mode.TheVariants.{File}
use Rattle.operations.specs.Parting.{through}
use Rattle.laws.specs.Meets.{gains, turns, Meets}
use Rattle.laws.specs.Stripped.{an_end}
use Rattle.laws.specs.View.{headed, Good}
use Rattle.laws.proofs.Sound.{gains_join}
use Rattle.laws.proofs.Types.{type_of, type_test, last_is}
use Rattle.laws.proofs.Follows.{Test, everywhere, always, implies, mp, known}
use Rattle.laws.proofs.EndsPut.{gain_opens}
use Rattle.laws.proofs.Bodies.{Cut, good_cut}

-- ---- an assignment is open from its 20 to its 88
-- behind a record of this type: one open, or none
abbrev open_behind : Kind → ℕ
open_behind k = if an_end (number_of_kind k) || (eqb (number_of_kind k) 10 || eqb (number_of_kind k) 0) then 0 else 1

abbrev one_if : Bool → ℕ
one_if b = if b then 1 else 0

-- a 20 stands where none is open, an 88 and all between where one is
open_test : Test
open_test b l k may = implies (may File k) (eqb (open_behind l + one_if (eqb (number_of_kind k) 20)) (open_behind k + one_if (eqb (number_of_kind k) 88)))

open_everywhere : everywhere open_test ≡ true
unfolding every kind_for member open_test
open_everywhere = refl

open_on : (a : Assignment) (k : Kind) → may_follow File a k ≡ true → open_behind a.last + one_if (eqb (number_of_kind k) 20) ≡ open_behind k + one_if (eqb (number_of_kind k) 88)
unfolding open_test
open_on a k m = eqb-true _ _ (mp _ _ (always open_test open_everywhere true a k) m)

not_other : (k : Kind) → eqb (number_of_kind k) 0 ≡ false → k ≡ Other → ⊥
not_other k h e = true≢false (sym (ap (λ (x : Kind). eqb (number_of_kind x) 0) e) ∙ h)

-- the same of a record, by its code and by what it adds
record Opens (a : Assignment) (r : List ℕ) : Type 0 where
  last : (turn r a).last ≡ kind_of r
  counted : open_behind a.last + (gain r).assignments.0 ≡ open_behind (turn r a).last + one_if (eqb (record_code r) 88)

opens : (a : Assignment) (r : List ℕ) → may_follow File a (kind_of r) ≡ true → Opens a r
opens a r m =
    let l = last_is (kind_of r) r a (known File a (kind_of r) m) in
    record {
      last = l;
      counted =
          ap (λ (n : ℕ). open_behind a.last + n) (gain_opens r ∙ sym (ap one_if (type_test r R20 (not_other R20 refl))))
          ∙ open_on a (kind_of r) m
          ∙ (λ i. open_behind (sym l i) + one_if (type_test r R88 (not_other R88 refl) i));
    }

-- ---- through the k-th 88
-- records that end with an 88 and have k of them
record CutAt (a : Assignment) (k : ℕ) (x : List (List ℕ)) : Type 0 where
  ended : (turns a x).last ≡ R88
  counted : open_behind a.last + (gains x).assignments.0 ≡ k

abbrev left : ℕ → List ℕ → ℕ
left k r = if eqb (record_code r) 88 then k - 1 else k

take_none : (k : ℕ) (rs : List (List ℕ)) → k ≡ 0 → take (through k rs) rs ≡ []
unfolding through
take_none k [] e = refl
take_none k (r ∷ rs) e = rw e

take_on : (k : ℕ) (r : List ℕ) (rs : List (List ℕ)) → (k ≡ 0 → ⊥) → take (through k (r ∷ rs)) (r ∷ rs) ≡ r ∷ take (through (left k r) rs) rs
unfolding through
take_on k r rs n =
    let one : 1 + through (left k r) rs ≡ suc (through (left k r) rs) = omega arith in
    rw (ne_eqb k 0 n) (ap (λ (m : ℕ). take m (r ∷ rs)) one)

-- an 88 takes one off k, and stands last
an_88 : (r : List ℕ) → eqb (record_code r) 88 ≡ true → kind_of r ≡ R88
unfolding kind_for
an_88 r e = type_of (record_code r) 88 e

record Leaves (a : Assignment) (k : ℕ) (r : List ℕ) : Type 0 where
  rest : left k r + one_if (eqb (record_code r) 88) ≡ k
  ended : left k r ≡ 0 → (turn r a).last ≡ R88

leaves : (a : Assignment) (k : ℕ) (r : List ℕ) → (k ≡ 0 → ⊥) → Opens a r → Leaves a k r
leaves a k r n o =
    let v = go (eqb (record_code r) 88) refl in
    record { rest = v.0; ended = v.1 }
  where
    go : (b : Bool) → eqb (record_code r) 88 ≡ b → ((if b then k - 1 else k) + one_if b ≡ k) × ((if b then k - 1 else k) ≡ 0 → (turn r a).last ≡ R88)
    go true x = (omega (arith, n), λ z. o.last ∙ an_88 r x)
    go false x = (omega arith, λ z. absurd (n z))

-- one record more in front
cut_on : (a : Assignment) (k : ℕ) (r : List ℕ) (x : List (List ℕ)) → Opens a r → Leaves a k r → CutAt (turn r a) (left k r) x → CutAt a k (r ∷ x)
unfolding turns gains
cut_on a k r x o l v = record { ended = v.ended; counted = omega (arith, o.counted, l.rest, v.counted) }

module _ (w : Window) where
  cut_at : (f : Totals) (ks : List ℕ) (a : Assignment) (k : ℕ) (rs : List (List ℕ)) → (k ≡ 0 → a.last ≡ R88) → k ≤ open_behind a.last + (gains rs).assignments.0
      → Meets File w f ks a rs → (turns a rs).last ≡ R88 → CutAt a k (take (through k rs) rs)
  unfolding Meets turns gains AllHold
  cut_at f ks a k [] p q h e =
      let none : open_behind a.last ≡ 0 = ap open_behind e in
      subst (CutAt a k) (sym (take-nil (through k []))) record { ended = e; counted = omega (arith, none, q) }
  cut_at f ks a k (r ∷ rs) p q h e = go (eqb k 0) refl (λ x y. cut_at (f ⊕ gain r) (ks ++ keys r) (turn r a) (left k r) rs x y h.1 e)
    where
      go : (b : Bool) → eqb k 0 ≡ b
          → ((left k r ≡ 0 → (turn r a).last ≡ R88) → left k r ≤ open_behind (turn r a).last + (gains rs).assignments.0 → CutAt (turn r a) (left k r) (take (through (left k r) rs) rs))
          → CutAt a k (take (through k (r ∷ rs)) (r ∷ rs))
      go true x ih =
          let z = eqb-true k 0 x in
          let none : open_behind a.last ≡ 0 = ap open_behind (p z) in
          subst (CutAt a k) (sym (take_none k (r ∷ rs) z)) record { ended = p z; counted = omega (arith, none, z) }
      go false x ih =
          let n = eqb-false k 0 x in
          let o = opens a r h.0.1.0 in
          let l = leaves a k r n o in
          subst (CutAt a k) (sym (take_on k r rs n)) (cut_on a k r _ o l (ih l.ended (omega (arith, q, o.counted, l.rest))))

-- ---- a good body cut so
-- the first k assignments, and the others
abbrev pub first_of : ℕ → List (List ℕ) → List (List ℕ)
first_of k body = take (through k body) body

abbrev pub others_of : ℕ → List (List ℕ) → List (List ℕ)
others_of k body = drop (through k body) body

pub record CutBody (w : Window) (head : List ℕ) (body : List (List ℕ)) (k : ℕ) : Type 0 where
  pub cut : Cut w head (first_of k body) (others_of k body)
  pub whole : first_of k body ++ others_of k body ≡ body
  pub first_many : (gains (first_of k body)).assignments.0 ≡ k
  pub others_many : (gains (others_of k body)).assignments.0 ≡ (gains body).assignments.0 - k

-- what adds an assignment is not empty
cut_some : (w : Window) (head : List ℕ) (x y : List (List ℕ)) → Good w head (x ++ y) → (turns headed x).last ≡ R88 → 0 < (gains y).assignments.0 → Cut w head x y
unfolding gains
cut_some w head x [] g e n = absurd (omega arith)
cut_some w head x (r ∷ rs) g e n = good_cut w head x r rs g e

pub cut_body : (w : Window) (head : List ℕ) (body : List (List ℕ)) (k : ℕ) → Good w head body → 1 ≤ k → k < (gains body).assignments.0 → CutBody w head body k
cut_body w head body k g p q =
    let v = cut_at w one_record [] headed k body (λ z. absurd (omega (arith, z, p))) (omega (arith, q)) g.meets g.ended in
    let whole = take-append-drop (through k body) body in
    let sum : (gains body).assignments.0 ≡ (gains (first_of k body)).assignments.0 + (gains (others_of k body)).assignments.0 =
    ap (λ (t : Totals). t.assignments.0) (sym (ap gains whole) ∙ gains_join (first_of k body) (others_of k body)) in
    let many : (gains (others_of k body)).assignments.0 ≡ (gains body).assignments.0 - k = omega (arith, v.counted, sum) in
    record {
      cut = cut_some w head (first_of k body) (others_of k body) (subst (Good w head) (sym whole) g) v.ended (omega (arith, many, q));
      whole = whole;
      first_many = omega (arith, v.counted);
      others_many = many;
    }
