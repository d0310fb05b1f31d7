-- Where a draft can stand, and what may follow there in the draft and in the file that it is closed to, as tests computed over every case.
-- Assumes nothing.
use Prim.Native.Nat.{ℕ, ◌+◌}
use mathlib.Core.Path.{◌≡◌, refl, sym, ap, subst, ◌∙◌}
use mathlib.Core.Logic.{◌⊎◌, inl, inr}
use mathlib.Core.List.{List, [], ◌∷◌}
use mathlib.Core.Bool.{Bool, true, false, not, ◌&&◌, ◌||◌, false≢true, true≢false}
use native.Mathlib.Nat.{add-zero}
use native.Mathlib.Omega.{arith}
use borrow.Author.Tests.{lt-ltb, not-true}
use lib.Dec.{eqb, ltb, lit<}
use Rattle.std.specs.Prelude.{if◌then◌else◌}
use Rattle.fields.specs.Bytes.{every}
use Rattle.fields.proofs.Tests.{and_left, and_right, and_both}
use Rattle.fields.proofs.Every.{every_at}
use Rattle.services.specs.declared.Service.{Service}
use Rattle.services.specs.declared.Service.TheVariants.{Autogiro, Remittance}
use Rattle.figures.specs.Totals.{◌⊕◌}
use Rattle.figures.specs.declared.totals.Totals.{Totals}
use Rattle.layout.specs.Rows.{member}
use Rattle.rules.specs.Codes.{number_of_kind, kind_for}
use Rattle.rules.proofs.Codes.{at_code}
use Rattle.rules.specs.Order.{behind, may_follow, is_end}
use Rattle.rules.specs.Growth.{gain_for, turn_for}
use Rattle.rules.specs.declared.Assignment.{Assignment}
use Rattle.rules.specs.declared.Kind.{Kind}
use Rattle.rules.specs.declared.Kind.TheVariants.{R10, R20, R30, R31, R40, R41, R49, R50, R88, R89, Other}
use Rattle.rules.specs.declared.Mode.{Mode}
use Rattle.rules.specs.declared.Mode.TheVariants.{File, Draft}
use Rattle.laws.specs.Stripped.{an_end}
use Rattle.laws.proofs.Types.{each_kind, of_kind, type_by}

-- ---- what holds of each record type, service, transaction type and truth value holds of all
abbrev pub each_bool : (Bool → Bool) → Bool
each_bool p = p true && p false

of_bool : (p : Bool → Bool) → each_bool p ≡ true → (b : Bool) → p b ≡ true
of_bool p h true = and_left (p true) (p false) h
of_bool p h false = and_right (p true) (p false) h

abbrev pub each_service : (Service → Bool) → Bool
each_service p = p Autogiro && p Remittance

of_service : (p : Service → Bool) → each_service p ≡ true → (s : Service) → p s ≡ true
of_service p h Autogiro = and_left (p Autogiro) (p Remittance) h
of_service p h Remittance = and_right (p Autogiro) (p Remittance) h

-- a transaction type counts as 16, 4 or 3, or as any other
abbrev pub types : List ℕ
types = 16 ∷ 4 ∷ 3 ∷ 0 ∷ []

other_type : (m : Mode) (l : Kind) (s : Service) (t : ℕ) → eqb t 16 ≡ false → eqb t 4 ≡ false → eqb t 3 ≡ false → behind m l s t ≡ behind m l s 0
other_type m R10 s t p q r = refl
other_type m R20 s t p q r = refl
other_type m R30 s t p q r = refl
other_type m R31 Autogiro t p q r = rw r
other_type m R31 Remittance t p q r = rw (p, q, r)
other_type m R40 s t p q r = refl
other_type m R41 s t p q r = refl
other_type m R49 s t p q r = refl
other_type m R50 s t p q r = refl
other_type m R88 s t p q r = refl
other_type m R89 s t p q r = refl
other_type m Other s t p q r = refl

-- a test of a case: whether the file has an assignment, the record before, the new record, and what may stand there
abbrev pub Test : Type 0
Test = Bool → Kind → Kind → (Mode → Kind → Bool) → Bool

abbrev pub at_case : Test → Bool → Kind → Kind → Service → ℕ → Bool
at_case T b l k s t = T b l k (λ m j. member (number_of_kind j) (behind m l s t))

abbrev pub everywhere : Test → Bool
everywhere T = each_bool (λ b. each_kind (λ l. each_kind (λ k. each_service (λ s. every (at_case T b l k s) types))))

pub always : (T : Test) → everywhere T ≡ true → (b : Bool) (a : Assignment) (k : Kind) → T b a.last k (λ m j. may_follow m a j) ≡ true
unfolding may_follow
always T h b a k =
    let l = a.last in
    let s = a.service in
    let h1 = of_bool (λ b. each_kind (λ l. each_kind (λ k. each_service (λ s. every (at_case T b l k s) types)))) h b in
    let h2 = of_kind (λ l. each_kind (λ k. each_service (λ s. every (at_case T b l k s) types))) h1 l in
    let h3 = of_kind (λ k. each_service (λ s. every (at_case T b l k s) types)) h2 k in
    let h4 = of_service (λ s. every (at_case T b l k s) types) h3 s in
    let P : ℕ → Type 0 = λ t. at_case T b l k s t ≡ true in
    at_code P 16 a.code (every_at (at_case T b l k s) types 0 h4 (lit< tt)) λ p.
    at_code P 4 a.code (every_at (at_case T b l k s) types 1 h4 (lit< tt)) λ q.
    at_code P 3 a.code (every_at (at_case T b l k s) types 2 h4 (lit< tt)) λ r.
    (λ i. T b l k (λ m j. member (number_of_kind j) (other_type m l s a.code p q r i))) ∙ every_at (at_case T b l k s) types 3 h4 (lit< tt)

abbrev pub implies : Bool → Bool → Bool
implies a b = not a || b

pub mp : (a b : Bool) → implies a b ≡ true → a ≡ true → b ≡ true
mp a b h p = rw p at h

-- a record of no type stands nowhere
known_everywhere : everywhere (λ b l k may. not (may File Other) && not (may Draft Other)) ≡ true
unfolding every kind_for member
known_everywhere = refl

pub known : (m : Mode) (a : Assignment) (k : Kind) → may_follow m a k ≡ true → k ≡ Other → ⊥
known m a k h e = true≢false (sym (subst (λ (x : Kind). may_follow m a x ≡ true) e h) ∙ go m)
  where
    v : not (may_follow File a Other) && not (may_follow Draft a Other) ≡ true
    v = always (λ b l k may. not (may File Other) && not (may Draft Other)) known_everywhere true a Other

    go : (m : Mode) → may_follow m a Other ≡ false
    go File = not-true (may_follow File a Other) (and_left (not (may_follow File a Other)) (not (may_follow Draft a Other)) v)
    go Draft = not-true (may_follow Draft a Other) (and_right (not (may_follow File a Other)) (not (may_follow Draft a Other)) v)

-- ---- where a draft can stand
-- before any assignment or within one, never behind an 88 or 89
abbrev stands : Kind → Bool → Bool
stands l b = if eqb (number_of_kind l) 0 || eqb (number_of_kind l) 10 then not b else (not (an_end (number_of_kind l)) && b)

abbrev pub Stands : Assignment → Totals → Type 0
Stands a f = stands a.last (ltb 0 f.assignments.0) ≡ true

-- a record 20 behind another assignment
abbrev pub reopens : Kind → Bool → Bool
reopens k b = eqb (number_of_kind k) 20 && b

-- what may follow in a draft keeps to that, and may follow in the file, behind an 88 where it opens an assignment anew
abbrev draft_test : Test
draft_test b l k may =
    implies (stands l b && may Draft k)
    (not (an_end (number_of_kind k)) && (stands k (eqb (number_of_kind k) 20 || b) && (if reopens k b then may File R88 else may File k)))

-- what may follow in the file is an 88 where a 20 may follow in the draft, or follows in the draft and opens no assignment anew
abbrev file_says : Bool → Kind → (Mode → Kind → Bool) → Bool
file_says b k may = if an_end (number_of_kind k) then eqb (number_of_kind k) 88 && (b && may Draft R20) else may Draft k && not (reopens k b)

abbrev file_test : Test
file_test b l k may = implies (stands l b && may File k) (file_says b k may)

abbrev end_test : Test
end_test b l k may = implies (stands l b && is_end l) false

draft_everywhere : everywhere draft_test ≡ true
unfolding every kind_for member
draft_everywhere = refl

file_everywhere : everywhere file_test ≡ true
unfolding every kind_for member
file_everywhere = refl

end_everywhere : everywhere end_test ≡ true
unfolding every kind_for
end_everywhere = refl

-- ---- one record more
-- where it leaves the draft
moved : (k : Kind) (r : List ℕ) (a : Assignment) (n : ℕ) → (k ≡ Other → ⊥) → stands k (eqb (number_of_kind k) 20 || ltb 0 n) ≡ true
    → stands (turn_for k r a).last (ltb 0 (n + (gain_for k r).assignments.0)) ≡ true
moved R10 r a n o h = rw add-zero h
moved R20 r a n o h = lt-ltb 0 (n + 1) (omega arith)
moved R30 r a n o h = rw add-zero h
moved R31 r a n o h = rw add-zero h
moved R40 r a n o h = rw add-zero h
moved R41 r a n o h = rw add-zero h
moved R49 r a n o h = rw add-zero h
moved R50 r a n o h = rw add-zero h
moved R88 r a n o h = h
moved R89 r a n o h = h
moved Other r a n o h = absurd (o refl)

module _ (a : Assignment) (f : Totals) (k : Kind) (r : List ℕ) (s : Stands a f) where
  -- a record that may stand in the draft
  pub record InDraft : Type 0 where
    pub kept : an_end (number_of_kind k) ≡ false
    pub on : Stands (turn_for k r a) (f ⊕ gain_for k r)
    pub plain : reopens k (ltb 0 f.assignments.0) ≡ false → may_follow File a k ≡ true
    pub closes : reopens k (ltb 0 f.assignments.0) ≡ true → may_follow File a R88 ≡ true

  pub in_draft : may_follow Draft a k ≡ true → InDraft
  in_draft m =
      let n = number_of_kind k in
      let b = ltb 0 f.assignments.0 in
      let file = if reopens k b then may_follow File a R88 else may_follow File a k in
      let v = mp _ _ (always draft_test draft_everywhere b a k) (and_both (stands a.last b) (may_follow Draft a k) s m) in
      let v1 = and_right (not (an_end n)) (stands k (eqb n 20 || b) && file) v in
      let c : file ≡ true = and_right (stands k (eqb n 20 || b)) file v1 in
      record {
        kept = not-true (an_end n) (and_left (not (an_end n)) (stands k (eqb n 20 || b) && file) v);
        on = moved k r a f.assignments.0 (known Draft a k m) (and_left (stands k (eqb n 20 || b)) file v1);
        plain = λ e. rw e at c;
        closes = λ e. rw e at c;
      }

module _ (a : Assignment) (f : Totals) (k : Kind) (s : Stands a f) where
  says : may_follow File a k ≡ true → file_says (ltb 0 f.assignments.0) k (λ m j. may_follow m a j) ≡ true
  says m =
      let b = ltb 0 f.assignments.0 in
      mp (stands a.last b && may_follow File a k) (file_says b k (λ m j. may_follow m a j)) (always file_test file_everywhere b a k)
      (and_both (stands a.last b) (may_follow File a k) s m)

  -- a record that may stand in the file, and is no end
  pub record InFile : Type 0 where
    pub draft : may_follow Draft a k ≡ true
    pub plain : reopens k (ltb 0 f.assignments.0) ≡ false

  pub in_file : may_follow File a k ≡ true → an_end (number_of_kind k) ≡ false → InFile
  in_file m e =
      let n = number_of_kind k in
      let b = ltb 0 f.assignments.0 in
      let one = eqb n 88 && (b && may_follow Draft a R20) in
      let two = may_follow Draft a k && not (reopens k b) in
      let c : (if an_end n then one else two) ≡ true = says m in
      let d : two ≡ true = rw e at c in
      record {
        draft = and_left (may_follow Draft a k) (not (reopens k b)) d;
        plain = not-true (reopens k b) (and_right (may_follow Draft a k) (not (reopens k b)) d);
      }

module _ (a : Assignment) (f : Totals) (s : Stands a f) where
  -- an 88 in the file: there is an assignment, and in the draft a 20 may follow
  pub at_88 : may_follow File a R88 ≡ true → (ltb 0 f.assignments.0 ≡ true) × (may_follow Draft a R20 ≡ true)
  at_88 m =
      let b = ltb 0 f.assignments.0 in
      let v : b && may_follow Draft a R20 ≡ true = says a f R88 s m in
      (and_left b (may_follow Draft a R20) v, and_right b (may_follow Draft a R20) v)

  -- an 89 stands nowhere here, and the file does not end here
  pub no_89 : may_follow File a R89 ≡ true → ⊥
  no_89 m = false≢true (says a f R89 s m)

  pub no_end : is_end a.last ≡ true → ⊥
  no_end e = false≢true (mp _ _ (always end_test end_everywhere (ltb 0 f.assignments.0) a R10) (and_both (stands a.last (ltb 0 f.assignments.0)) (is_end a.last) s e))

-- behind an 88 comes a 20 or an 89, behind an 89 nothing
pub behind_88 : (a : Assignment) (k : Kind) → a.last ≡ R88 → may_follow File a k ≡ true → (k ≡ R20) ⊎ (k ≡ R89)
unfolding may_follow member kind_for
behind_88 a k e m = go (eqb (number_of_kind k) 20) (eqb (number_of_kind k) 89) refl refl (rw e at m)
  where
    go : (x y : Bool) → eqb (number_of_kind k) 20 ≡ x → eqb (number_of_kind k) 89 ≡ y → x || (y || false) ≡ true → (k ≡ R20) ⊎ (k ≡ R89)
    go true y p q h = inl (type_by k 20 p)
    go false true p q h = inr (type_by k 89 q)
    go false false p q h = absurd (false≢true h)

pub behind_89 : (a : Assignment) (k : Kind) → a.last ≡ R89 → may_follow File a k ≡ true → ⊥
unfolding may_follow member
behind_89 a k e m = false≢true (rw e at m)

pub may_89 : (a : Assignment) → a.last ≡ R88 → may_follow File a R89 ≡ true
unfolding may_follow member
may_89 a e = ap (λ (l : Kind). member 89 (behind File l a.service a.code)) e

-- an 89 stands behind an 88 alone
before_test : Test
before_test b l k may = implies (may File R89) (eqb (number_of_kind l) 88)

before_everywhere : everywhere before_test ≡ true
unfolding every kind_for member before_test
before_everywhere = refl

pub before_89 : (a : Assignment) → may_follow File a R89 ≡ true → a.last ≡ R88
unfolding kind_for before_test
before_89 a m = type_by a.last 88 (mp (may_follow File a R89) (eqb (number_of_kind a.last) 88) (always before_test before_everywhere true a R89) m)

-- a file begins with a 10 and ends with an 89
pub first_10 : (a : Assignment) (k : Kind) → a.last ≡ Other → may_follow File a k ≡ true → k ≡ R10
unfolding may_follow member kind_for
first_10 a k e m = go (eqb (number_of_kind k) 10) refl (rw e at m)
  where
    go : (x : Bool) → eqb (number_of_kind k) 10 ≡ x → x || false ≡ true → k ≡ R10
    go true p h = type_by k 10 p
    go false p h = absurd (false≢true h)

pub last_89 : (k : Kind) → is_end k ≡ true → k ≡ R89
unfolding every kind_for
last_89 k e = type_by k 89 (mp (is_end k) (eqb (number_of_kind k) 89) (of_kind (λ k. implies (is_end k) (eqb (number_of_kind k) 89)) refl k) e)
