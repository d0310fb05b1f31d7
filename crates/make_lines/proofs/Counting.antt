-- The values of a line against what its record type asks for: how many there are, and which are numbers.
-- Assumes nothing.
use Prim.Native.Nat.{ℕ, zero, suc, ◌+◌, ◌-◌, ◌≤◌, ◌<◌}
use mathlib.Core.Path.{◌≡◌, refl, sym, ap, ap₂, ◌∙◌}
use mathlib.Core.List.{List, [], ◌∷◌}
use mathlib.Core.Bool.{Bool, true, false, ◌&&◌}
use native.Mathlib.Numerals.{add-one}
use native.Mathlib.Nat.{add-zero, le_of_suc-le-suc}
use native.Mathlib.Omega.{arith}
use lib.Dec.{eqb}
use lib.ListN.{length, get_or, drop, length-drop, drop_of_length-le}
use lib.Seq.{drop-cons, drop-drop, get_or-drop}
use Rattle.std.specs.Prelude.{if◌then◌else◌, Err}
use Rattle.std.specs.List.{count_by}
use Rattle.std.proofs.lemmas.List.Splits.{length-slice_split}
use Rattle.fields.specs.Bytes.{every, same, text}
use Rattle.field_bytes.proofs.Every.{same_is}
use Rattle.layout.specs.Findings.{Finding, fault, or_else, sound}
use Rattle.layout.specs.declared.Reason.TheVariants.{WrongForm}
use Rattle.rules.specs.declared.Kind.TheVariants.{Other}
use Rattle.make_lines.specs.Lines.{behind, with_first, between, values_of, from_value, is_semicolon}
use Rattle.make_lines.specs.Draft.{type_given, field_of, all_empty, counted, slot_found, numerals, given_in}
use Rattle.make_lines.specs.declared.slots.Slot.{Slot}
use Rattle.make_lines.proofs.Pieces.{between_is}

-- ---- the record type: two bytes
other_length : (s t : List ℕ) → (length s ≡ length t → ⊥) → same s t ≡ false
other_length s t h = go (same s t) refl
  where
    go : (b : Bool) → same s t ≡ b → same s t ≡ false
    go true e = absurd (h (ap length (same_is s t e)))
    go false e = e

pub other_type : (s : List ℕ) → (length s ≡ 2 → ⊥) → Other ≡ type_given s
unfolding type_given
other_type s h =
    simp (
      other_length s (text "10") h,
      other_length s (text "20") h,
      other_length s (text "30") h,
      other_length s (text "31") h,
      other_length s (text "40") h,
      other_length s (text "41") h,
      other_length s (text "49") h,
      other_length s (text "50") h,
    )

-- ---- how many values there are
too_few : (ss : List Slot) (vs : List (List ℕ)) (d : Slot) → length vs < length ss → counted ss vs ≡ Err (fault WrongForm (field_of (get_or ss (length vs) d)))
unfolding counted
too_few [] vs d h = absurd (let z : length vs < 0 = h in omega arith)
too_few (s ∷ ss) [] d h = refl
too_few (s ∷ ss) (v ∷ vs) d h = too_few ss vs d (le_of_suc-le-suc h)

enough_values : (ss : List Slot) (vs : List (List ℕ)) → length ss ≤ length vs → counted ss vs ≡ (if all_empty (drop (length ss) vs) then sound else Err (fault WrongForm 0))
unfolding counted
enough_values [] vs h = refl
enough_values (s ∷ ss) [] h = absurd (let z : suc (length ss) ≤ 0 = h in omega arith)
enough_values (s ∷ ss) (v ∷ vs) h = enough_values ss vs (le_of_suc-le-suc h)

-- ---- empty values are semicolons alone
first_some : (x : ℕ) (ss : List (List ℕ)) → all_empty (with_first x ss) ≡ false
unfolding all_empty
first_some x [] = refl
first_some x (s ∷ ss) = refl

all_empty_lem : (s : List ℕ) → all_empty (between 59 s) ≡ every is_semicolon s
unfolding all_empty between every
all_empty_lem [] = refl
all_empty_lem (x ∷ s) = go (eqb x 59) (all_empty_lem s)
  where
    go : (t : Bool) → all_empty (between 59 s) ≡ every is_semicolon s
        → all_empty (if t then ([] ∷ between 59 s) else with_first x (between 59 s)) ≡ t && every is_semicolon s
    go true h = h
    go false h = first_some x (between 59 s)

none_dropped : (k : ℕ) → ◌≡◌ {A = List (List ℕ)} (drop k []) []
none_dropped zero = refl
none_dropped (suc k) = refl

-- the first value goes with its semicolon
one_dropped : (k : ℕ) (s : List ℕ) → all_empty (drop (suc k) (between 59 s)) ≡ all_empty (drop k (between 59 (behind 59 s)))
unfolding all_empty between behind
one_dropped zero [] = refl
one_dropped (suc k) [] = sym (ap all_empty (none_dropped k))
one_dropped k (x ∷ s) = go (eqb x 59) (one_dropped k s)
  where
    first : (ss : List (List ℕ)) → drop (suc k) (with_first x ss) ≡ drop (suc k) ss
    first [] = none_dropped k
    first (v ∷ vs) = refl

    go : (t : Bool) → all_empty (drop (suc k) (between 59 s)) ≡ all_empty (drop k (between 59 (behind 59 s)))
        → all_empty (drop (suc k) (if t then ([] ∷ between 59 s) else with_first x (between 59 s))) ≡ all_empty (drop k (between 59 (if t then s else behind 59 s)))
    go true h = refl
    go false h = ap all_empty (first (between 59 s)) ∙ h

surplus : (k : ℕ) (s : List ℕ) → all_empty (drop k (values_of s)) ≡ every is_semicolon (from_value k s)
unfolding from_value
surplus zero s = all_empty_lem s
surplus (suc k) s = one_dropped k s ∙ surplus k (behind 59 s)

-- the values of a line that are given, by its semicolons
module _ (l : List ℕ) (n : ℕ) (e : n ≡ count_by (λ b. eqb b 59) l) where
  how_many : n ≡ length (given_in l)
  how_many =
      let m : length (values_of l) ≡ count_by (λ b. eqb b 59) l + 1 = sym (ap length (between_is 59 l)) ∙ length-slice_split (λ b. eqb b 59) l in
      let d : length (given_in l) ≡ length (values_of l) - 1 = length-drop 1 (values_of l) in
      omega (arith, e, m, d)

  module _ (ss : List Slot) where
    pub count_missing : (a : Slot) → n < length ss → a ≡ get_or ss n a → Err (fault WrongForm (field_of a)) ≡ counted ss (given_in l)
    count_missing a h g =
        ap (λ (x : Slot). Err (fault WrongForm (field_of x))) (g ∙ ap (λ (k : ℕ). get_or ss k a) how_many)
        ∙ sym (too_few ss (given_in l) a (omega (arith, how_many)))

    pub count_end : length ss ≤ n → (b : Bool) → b ≡ every is_semicolon (from_value (length ss + 1) l)
        → (if b then sound else Err (fault WrongForm 0)) ≡ counted ss (given_in l)
    count_end h b g =
        let o : length ss + 1 ≡ 1 + length ss = omega arith in
        ap (λ (x : Bool). if x then sound else Err (fault WrongForm 0))
        (g ∙ sym (surplus (length ss + 1) l)
        ∙ ap all_empty (ap (λ (k : ℕ). drop k (values_of l)) o ∙ sym (drop-drop (length ss) 1 (values_of l))))
        ∙ sym (enough_values ss (given_in l) (omega (arith, how_many)))

-- ---- numbers, one after the other
module _ (ss : List Slot) (s : List ℕ) (i : ℕ) where
  numerals_at : (vs : List (List ℕ)) (d : Slot) → i < length ss
      → numerals (drop i ss) (drop i vs) ≡ or_else (slot_found (get_or ss i d) (get_or vs i [])) (numerals (drop (i + 1) ss) (drop (i + 1) vs))
  unfolding numerals
  numerals_at vs d k =
      ap (λ (x : List Slot). numerals x (drop i vs)) (drop-cons ss i d k)
      ∙ ap₂ (λ (x : List ℕ) (y : List (List ℕ)). or_else (slot_found (get_or ss i d) x) (numerals (drop (suc i) ss) y))
      (get_or-drop i vs 0 [] ∙ ap (λ (j : ℕ). get_or vs j []) (add-zero i)) (drop-drop 1 i vs)
      ∙ ap (λ (j : ℕ). or_else (slot_found (get_or ss i d) (get_or vs i [])) (numerals (drop j ss) (drop (i + 1) vs))) (sym (add-one i))

  pub numerals_next : (f : Finding) (d : Slot) (v : List ℕ) → i < length ss → f ≡ slot_found (get_or ss i d) v → v ≡ get_or (values_of s) (i + 1) []
      → numerals (drop i ss) (drop i (given_in s)) ≡ or_else f (numerals (drop (i + 1) ss) (drop (i + 1) (given_in s)))
  numerals_next f d v k p r =
      let o : 1 + i ≡ i + 1 = omega arith in
      let w : get_or (given_in s) i [] ≡ v = get_or-drop 1 (values_of s) i [] ∙ ap (λ (j : ℕ). get_or (values_of s) j []) o ∙ sym r in
      let z : slot_found (get_or ss i d) (get_or (given_in s) i []) ≡ f = ap (slot_found (get_or ss i d)) w ∙ sym p in
      numerals_at (given_in s) d k ∙ ap (λ (x : Finding). or_else x (numerals (drop (i + 1) ss) (drop (i + 1) (given_in s)))) z

  pub numerals_end : length ss ≤ i → numerals (drop i ss) (drop i (given_in s)) ≡ sound
  unfolding numerals
  numerals_end k = ap (λ (x : List Slot). numerals x (drop i (given_in s))) (drop_of_length-le ss k)
