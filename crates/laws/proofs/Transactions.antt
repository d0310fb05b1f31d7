-- The 49s of a transaction, from one record to the next: where none can stand, what one that meets its rules says, and how many there can be.
-- Assumes nothing.
use Rattle.figures.specs.Totals.{◌⊕◌}
use Prim.Native.Nat.{ℕ, ◌+◌, ◌≤◌}
use mathlib.Core.Logic.{◌⊎◌, inl, inr}
use mathlib.Core.Path.{◌≡◌, refl, sym, ap, subst, ◌∙◌}
use mathlib.Core.List.{List, [], ◌∷◌, ◌++◌}
use mathlib.Core.Bool.{Bool, true, false, ◌||◌, true≢false}
use native.Mathlib.Omega.{arith}
use borrow.Author.Tests.{not-true, eqb-true, leb-true}
use lib.Dec.{eqb}
use Rattle.std.specs.Prelude.{if◌then◌else◌}
use Rattle.limits.specs.Limits.{most_in_message}
use Rattle.fields.specs.Bytes.{every, is_digit}
use Rattle.fields.proofs.Tests.{and_right}
use Rattle.dates.specs.declared.Window.{Window}
use Rattle.figures.specs.declared.totals.Totals.{Totals}
use Rattle.services.specs.Services.{code_for}
use Rattle.layout.specs.Rows.{Row, member, AllHold}
use Rattle.rules.specs.Codes.{kind_for, kind_of, number_of_kind, service_code}
use Rattle.rules.specs.Fields.{number_in, bytes_in, message_of}
use Rattle.rules.specs.Growth.{gain, keys, turn_for, turn}
use Rattle.rules.specs.Layouts.{notification49, free49, message49, record49, table_for, rows}
use Rattle.rules.specs.Messages.{taken, used, place_in, has_place, clashes_in, with_record}
use Rattle.rules.specs.Payments.{is_line, is_column}
use Rattle.rules.specs.Order.{behind, may_follow}
use Rattle.rules.specs.declared.Assignment.{Assignment}
use Rattle.rules.specs.declared.Kind.{Kind}
use Rattle.rules.specs.declared.Kind.TheVariants.{R10, R20, R30, R31, R40, R41, R49, R50, R88, R89, Other}
use Rattle.rules.specs.declared.Mode.{Mode}
use Rattle.rules.specs.declared.Places.{Places}
use Rattle.rules.proofs.Mask.{placed_clashes, one_more}
use Rattle.laws.specs.Meets.{Meets}
use Rattle.laws.specs.Messages.{NoPayment, count49}
use Rattle.laws.proofs.Sound.{hold_behind}
use Rattle.laws.proofs.Types.{type_by}

-- no transaction has begun since a 20 or a 10
abbrev pub Outside : Assignment → Type 0
Outside a = (a.last ≡ R20) ⊎ (a.last ≡ R10)

pub only : (n c : ℕ) → member n (c ∷ []) ≡ true → eqb n c ≡ true
unfolding member
only n c h = go (eqb n c) h
  where
    go : (b : Bool) → b || false ≡ true → b ≡ true
    go true e = refl
    go false e = e

module _ (m : Mode) (a : Assignment) (k : Kind) (h : may_follow m a k ≡ true) where
  -- after a 20 only a 30, after a 10 only a 20
  behind_20 : a.last ≡ R20 → k ≡ R30
  unfolding may_follow kind_for
  behind_20 e = type_by k 30 (only (number_of_kind k) 30 (sym (ap (λ (l : Kind). member (number_of_kind k) (behind m l a.service a.code)) e) ∙ h))

  behind_10 : a.last ≡ R10 → k ≡ R20
  unfolding may_follow kind_for
  behind_10 e = type_by k 20 (only (number_of_kind k) 20 (sym (ap (λ (l : Kind). member (number_of_kind k) (behind m l a.service a.code)) e) ∙ h))

pub is_49 : (k : Kind) → eqb (number_of_kind k) 49 ≡ true → k ≡ R49
unfolding kind_for
is_49 k e = type_by k 49 e

-- no 49 stands outside transactions
pub none_behind : (m : Mode) (a : Assignment) → may_follow m a R49 ≡ true → Outside a → ⊥
none_behind m a h (inl l) = let z : ◌≡◌ {A = ℕ} 49 30 = ap number_of_kind (behind_20 m a R49 h l) in omega arith
none_behind m a h (inr l) = let z : ◌≡◌ {A = ℕ} 49 20 = ap number_of_kind (behind_10 m a R49 h l) in omega arith

-- outside transactions only a 20 can follow, if no 30 does
pub outside_on : (m : Mode) (a : Assignment) (k : Kind) (r : List ℕ) → (k ≡ R30 → ⊥) → may_follow m a k ≡ true → Outside a → Outside (turn_for k r a)
outside_on m a k r n h (inl e) = absurd (n (behind_20 m a k h e))
outside_on m a k r n h (inr e) = inl (ap (λ (j : Kind). (turn_for j r a).last) (behind_10 m a k h e))

-- line and column of a 49, where its service has them, and their bounds where they are sound
abbrev pub line_in : List ℕ → ℕ
line_in r = number_in (message_of (service_code r)).line r

abbrev pub column_in : List ℕ → ℕ
column_in r = number_in (message_of (service_code r)).column r

pub bounded_by : (r : List ℕ) → is_line (bytes_in (message_of (service_code r)).line r) ≡ true → is_column (bytes_in (message_of (service_code r)).column r) ≡ true → (line_in r ≤ 21) × (column_in r ≤ 2)
unfolding is_line is_column
bounded_by r l c =
    let m = message_of (service_code r) in
    (leb-true (line_in r) 21 (and_right (every is_digit (bytes_in m.line r)) _ l), leb-true (column_in r) 2 (and_right (every is_digit (bytes_in m.column r)) _ c))

-- what they find of the message
abbrev pub free_in : Places → List ℕ → List Row
free_in ps r = free49 ps (line_in r) (column_in r)

-- a 49 that meets its rules is of its assignment's service, does not clash, and is within the message's limit
module _ (m : Mode) (w : Window) (f : Totals) (ks : List ℕ) (a : Assignment) (r : List ℕ) (e : kind_of r ≡ R49) (h : AllHold f ks r (rows m w a r)) where
  own : AllHold f ks r (record49 a r)
  unfolding AllHold
  own = subst (λ (k : Kind). AllHold f ks r (table_for k w a r)) e h.1.1

  pub of_service : service_code r ≡ code_for a.service
  unfolding AllHold
  of_service = eqb-true (service_code r) (code_for a.service) own.1.0

  message : AllHold f ks r (message49 (message_of (service_code r)) a.places r)
  unfolding AllHold
  message = hold_behind f ks r (notification49 (service_code r)) (message49 (message_of (service_code r)) a.places r) own.1.1.1.1.1

  pub bounded : (line_in r ≤ 21) × (column_in r ≤ 2)
  unfolding AllHold
  bounded = bounded_by r message.0 message.1.0

  pub no_clash : clashes_in a.places r ≡ false
  unfolding AllHold
  no_clash = not-true (clashes_in a.places r) message.1.1.0

  pub free : has_place r ≡ true → taken a.places.mask (place_in r) ≡ false
  free p = sym (placed_clashes a.places _ _ p) ∙ no_clash

  pub limited : used a.places + 1 ≤ most_in_message
  unfolding AllHold
  limited =
      let within = leb-true (used (with_record a.places r)) most_in_message message.1.1.1.0 in
      omega (arith, within, one_more a.places _ _ no_clash)

  -- it is one more of what the message has taken up
  pub grown : used (turn r a).places ≡ used a.places + 1
  grown = ap (λ (k : Kind). used (turn_for k r a).places) e ∙ one_more a.places _ _ no_clash

  -- it does not stand outside transactions
  pub inside : Outside a → ⊥
  unfolding AllHold
  inside o = none_behind m a (sym (ap (may_follow m a) e) ∙ h.1.0) o

-- ---- at most 42
-- so many 49s more are none, or within the limit
abbrev pub Limited : Assignment → ℕ → Type 0
Limited a n = (n ≡ 0) ⊎ (used a.places + n ≤ most_in_message)

-- what a stretch without a 30 adds to what was taken up before it; outside transactions it has no 49
module _ (m : Mode) (w : Window) where
  none_outside : (f : Totals) (ks : List ℕ) (a : Assignment) (rs rest : List (List ℕ)) → Meets m w f ks a (rs ++ rest) → NoPayment rs → Outside a → count49 rs ≡ 0
  unfolding Meets NoPayment count49 AllHold
  none_outside f ks a [] rest h n o = refl
  none_outside f ks a (r ∷ rs) rest h n o = go (eqb (number_of_kind (kind_of r)) 49) refl (none_outside (f ⊕ gain r) (ks ++ keys r) (turn r a) rs rest h.1 n.1 (outside_on m a (kind_of r) r n.0 h.0.1.0 o))
    where
      go : (b : Bool) → eqb (number_of_kind (kind_of r)) 49 ≡ b → count49 rs ≡ 0 → (if b then 1 else 0) + count49 rs ≡ 0
      go true e ih = absurd (inside m w f ks a r (is_49 (kind_of r) e) h.0 o)
      go false e ih = omega (arith, ih)

  -- a record that is no 49 leaves the places as they were, or ends the transaction
  pub others : (a : Assignment) (k : Kind) (r : List ℕ) → (k ≡ R30 → ⊥) → eqb (number_of_kind k) 49 ≡ false → ((turn_for k r a).places ≡ a.places) ⊎ Outside (turn_for k r a)
  others a R10 r n e = inr (inr refl)
  others a R20 r n e = inr (inl refl)
  others a R30 r n e = absurd (n refl)
  others a R31 r n e = inl refl
  others a R40 r n e = inl refl
  others a R41 r n e = inl refl
  others a R49 r n e = absurd (true≢false e)
  others a R50 r n e = inl refl
  others a R88 r n e = inl refl
  others a R89 r n e = inl refl
  others a Other r n e = inl refl

  -- a stretch has no 49, or those that it has are within the limit with what was taken up before
  pub within_limit : (f : Totals) (ks : List ℕ) (a : Assignment) (rs rest : List (List ℕ)) → Meets m w f ks a (rs ++ rest) → NoPayment rs → Limited a (count49 rs)
  unfolding Meets NoPayment count49 AllHold
  within_limit f ks a [] rest h n = inl refl
  within_limit f ks a (r ∷ rs) rest h n = go (eqb (number_of_kind (kind_of r)) 49) refl (within_limit (f ⊕ gain r) (ks ++ keys r) (turn r a) rs rest h.1 n.1)
    where
      one : kind_of r ≡ R49 → Limited (turn r a) (count49 rs) → Limited a (1 + count49 rs)
      one e (inl z) = inr (omega (arith, z, limited m w f ks a r e h.0))
      one e (inr l) = inr (omega (arith, l, grown m w f ks a r e h.0))

      same : ((turn r a).places ≡ a.places) ⊎ Outside (turn r a) → Limited (turn r a) (count49 rs) → Limited a (0 + count49 rs)
      same o (inl z) = inl (omega (arith, z))
      same (inl e) (inr l) = inr (omega (arith, l, ap used e))
      same (inr o) (inr l) = inl (omega (arith, none_outside (f ⊕ gain r) (ks ++ keys r) (turn r a) rs rest h.1 n.1 o))

      go : (b : Bool) → eqb (number_of_kind (kind_of r)) 49 ≡ b → Limited (turn r a) (count49 rs) → Limited a ((if b then 1 else 0) + count49 rs)
      go true e ih = one (is_49 (kind_of r) e) ih
      go false e ih = same (others a (kind_of r) r n.0 e) ih
