-- Document 02, No. 2 and No. 3: the rule on places and the limit of a message speak of the 49s of one transaction, in a file or a draft of either service.
-- Assumes nothing.
use Rattle.std.specs.Prelude.{ℕ, ◌+◌, ◌⊎◌, ◌≡◌, List, [], ◌∷◌, ◌++◌, true, false, eqb, length, if◌then◌else◌}
use Rattle.limits.specs.Limits.{most_in_message}
use Rattle.rules.specs.Codes.{kind_of, number_of_kind, service_code}
use Rattle.rules.specs.Fields.{message_of}
use Rattle.rules.specs.Messages.{place_in, has_place}
use Rattle.rules.specs.declared.Kind.TheVariants.{R30, R49}
use Rattle.laws.specs.Tells.{Agree}

-- none of them begins a transaction
unfoldable pub NoPayment : List (List ℕ) → Type 0
NoPayment [] = Unit {0}
NoPayment (r ∷ rs) = (kind_of r ≡ R30 → ⊥) × NoPayment rs

-- two 49s of one transaction, the second somewhere behind the first
pub record SameTransaction (rs : List (List ℕ)) (r s : List ℕ) : Type 0 where
  pub before : List (List ℕ)
  pub between : List (List ℕ)
  pub behind : List (List ℕ)
  pub whole : rs ≡ before ++ (r ∷ (between ++ (s ∷ behind)))
  pub first : kind_of r ≡ R49
  pub second : kind_of s ≡ R49
  pub one : NoPayment between

-- of one service; and where they have places, in different ones: they do not agree in line and column, where their service has them
pub record Apart (r s : List ℕ) : Type 0 where
  pub service : service_code r ≡ service_code s
  pub places : has_place r ≡ true → has_place s ≡ true → place_in r ≡ place_in s → ⊥
  pub fields : has_place r ≡ true → Agree (message_of (service_code r)).line r s → Agree (message_of (service_code r)).column r s → ⊥

-- how many of them are 49s
unfoldable pub count49 : List (List ℕ) → ℕ
count49 [] = 0
count49 (r ∷ rs) = (if eqb (number_of_kind (kind_of r)) 49 then 1 else 0) + count49 rs

-- records of one transaction somewhere in a file or a draft: none of them begins another
pub record Stretch (rs within : List (List ℕ)) : Type 0 where
  pub before : List (List ℕ)
  pub behind : List (List ℕ)
  pub whole : rs ≡ before ++ (within ++ behind)
  pub one : NoPayment within

-- records that end in a transaction in which this place is taken
pub record TakenBefore (rs : List (List ℕ)) (p : ℕ) : Type 0 where
  pub before : List (List ℕ)
  pub first : List ℕ
  pub between : List (List ℕ)
  pub whole : rs ≡ before ++ (first ∷ between)
  pub type : kind_of first ≡ R49
  pub placed : has_place first ≡ true
  pub place : place_in first ≡ p
  pub one : NoPayment between

-- the last 30 of these records, and the records of its transaction behind it
pub record LastPayment (rs : List (List ℕ)) : Type 0 where
  pub before : List (List ℕ)
  pub payment : List ℕ
  pub within : List (List ℕ)
  pub whole : rs ≡ before ++ (payment ∷ within)
  pub type : kind_of payment ≡ R30
  pub one : NoPayment within

-- they have as many 49s as a message holds
pub record FullMessage (rs : List (List ℕ)) : Type 0 where
  pub last : LastPayment rs
  pub count : count49 last.within ≡ most_in_message

-- the i-th record is a 49, and of it and the records before it P holds
pub record At49 (rs : List (List ℕ)) (i : ℕ) (P : List (List ℕ) → List ℕ → Type 0) : Type 0 where
  pub before : List (List ℕ)
  pub here : List ℕ
  pub behind : List (List ℕ)
  pub whole : rs ≡ before ++ (here ∷ behind)
  pub place : length before + 1 ≡ i
  pub type : kind_of here ≡ R49
  pub found : P before here

-- it has a place, and an earlier 49 of its transaction has taken that; none of the two is without one
abbrev pub Clash : List (List ℕ) → List ℕ → Type 0
Clash before r = (has_place r ≡ true) × TakenBefore before (place_in r)

-- one of these records is a 49 without a place
unfoldable pub SomeUnplaced : List (List ℕ) → Type 0
SomeUnplaced [] = ⊥
SomeUnplaced (r ∷ rs) = ((kind_of r ≡ R49) × (has_place r ≡ false)) ⊎ SomeUnplaced rs

-- it is one more than the message of its transaction holds, and one of them all is without a place: there are only as many places
abbrev pub OneTooMany : List (List ℕ) → List ℕ → Type 0
OneTooMany before r = (full : FullMessage before) × SomeUnplaced (r ∷ full.last.within)
