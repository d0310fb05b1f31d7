-- Pieces between bytes, as `split` gives them: lines and values, one by one.
-- Assumes nothing.
use Prim.Native.Nat.{ℕ, zero, suc, ◌+◌, ◌-◌, ◌≤◌, ◌<◌}
use mathlib.Core.Path.{◌≡◌, refl, sym, ap, ap₂, ◌∙◌}
use mathlib.Core.List.{List, [], ◌∷◌, ◌++◌}
use mathlib.Core.Bool.{Bool, true, false, cond, not, ◌||◌, ◌&&◌, false≢true}
use native.Mathlib.Numerals.{add-one}
use mathlib.Core.Logic.{◌≢◌}
use native.Mathlib.Nat.{sub-zero}
use native.Mathlib.Omega.{arith}
use borrow.Author.Tests.{eq-eqb, ne_eqb, eqb-true, ltb-true, ltb-false}
use denote.Ref.{Bor}
use lib.Dec.{eqb, ltb}
use lib.ListN.{length, get_or, take, drop, length-drop, drop_of_length-le}
use lib.Seq.{drop-drop}
use Rattle.std.specs.Prelude.{if◌then◌else◌, Option, Some, None}
use Rattle.std.specs.List.{slice_get, slice_split, onto_first, position_or_len, starts_with}
use Rattle.std.specs.Option.{MatchOption, option_map, unwrap_or}
use Rattle.std.proofs.lemmas.Option.{unwrap_or-slice_get}
use Rattle.field_texts.proofs.Wrote.{tail_part}
use Rattle.fields.specs.Bytes.{every}
use Rattle.make_lines.specs.Lines.{behind, with_first, between, without_return, all_without_return, lines_of, values_of, from_value, is_semicolon, is_remark, passed_over}

-- ---- the pieces
first_is : (x : ℕ) (ss : List (List ℕ)) → with_first x ss ≡ onto_first x ss
first_is x [] = refl
first_is x (s ∷ ss) = refl

pub between_is : (b : ℕ) (s : List ℕ) → slice_split (λ x. eqb x b) s ≡ between b s
unfolding between
between_is b [] = refl
between_is b (x ∷ s) =
    ap (λ (z : List (List ℕ)). if eqb x b then ([] ∷ z) else onto_first x z) (between_is b s)
    ∙ ap (λ (z : List (List ℕ)). if eqb x b then ([] ∷ between b s) else z) (sym (first_is x (between b s)))

now_or : (r : Option (Bor (List ℕ))) (d : Bor (List ℕ)) → (unwrap_or r d).now ≡ unwrap_or (option_map (λ x. x.now) r) d.now
now_or None d = refl
now_or (Some x) d = refl

-- the piece in place i, or an empty one
pub piece_at : (b : ℕ) (s : List ℕ) (i : ℕ) (r : Option (Bor (List ℕ))) (d : Bor (List ℕ)) {y : Bor (List ℕ)} → d.now ≡ [] → option_map (λ x. x.now) r ≡ slice_get (slice_split (λ x. eqb x b) s) i → y ≡ unwrap_or r d → y.now ≡ get_or (between b s) i []
piece_at b s i r d {y} e h g =
    ap (λ (x : Bor (List ℕ)). x.now) g ∙ now_or r d ∙ ap₂ unwrap_or (h ∙ ap (λ (z : List (List ℕ)). slice_get z i) (between_is b s)) e
    ∙ unwrap_or-slice_get (between b s) i []

-- ---- a return at the end
pub with_return : (s : List ℕ) → without_return (s ++ (13 ∷ [])) ≡ s
unfolding without_return
with_return [] = refl
with_return (x ∷ []) = refl
with_return (x ∷ y ∷ s) = ap (λ (z : List ℕ). x ∷ z) (with_return (y ∷ s))

pub no_return : (s : List ℕ) → ((front : List ℕ) → s ≡ front ++ (13 ∷ []) → ⊥) → without_return s ≡ s
unfolding without_return
no_return [] h = refl
no_return (x ∷ []) h = go (eqb x 13) refl
  where
    go : (b : Bool) → eqb x 13 ≡ b → (if b then [] else (x ∷ [])) ≡ x ∷ []
    go true e = absurd (h [] (ap (λ (z : ℕ). z ∷ []) (eqb-true x 13 e)))
    go false e = refl
no_return (x ∷ y ∷ s) h = ap (λ (z : List ℕ). x ∷ z) (no_return (y ∷ s) (λ front e. h (x ∷ front) (ap (λ (z : List ℕ). x ∷ z) e)))

-- a text that `strip_suffix` took a return off, or left as it is
pub return_off : (s : Bor (List ℕ)) (r : Option (Bor (List ℕ))) {y : Bor (List ℕ)} → MatchOption r ((front : List ℕ) → s.now ≢ front ++ (13 ∷ [])) (λ x. s.now ≡ x.now ++ (13 ∷ [])) → y ≡ unwrap_or r s → y.now ≡ without_return s.now
return_off s None h e = ap (λ (x : Bor (List ℕ)). x.now) e ∙ sym (no_return s.now h)
return_off s (Some x) h e = ap (λ (z : Bor (List ℕ)). z.now) e ∙ sym (ap without_return h ∙ with_return x.now)

-- ---- lines
line_of : (ss : List (List ℕ)) (i : ℕ) → without_return (get_or ss i []) ≡ get_or (all_without_return ss) i []
unfolding without_return all_without_return
line_of [] zero = refl
line_of [] (suc i) = refl
line_of (s ∷ ss) zero = refl
line_of (s ∷ ss) (suc i) = line_of ss i

pub line_is : (v : List ℕ) (i : ℕ) (s : List ℕ) → s ≡ get_or (between 10 v) i [] → without_return s ≡ get_or (lines_of v) i []
line_is v i s e = ap without_return e ∙ line_of (between 10 v) i

-- ---- lines that are passed over
pub remark_is : (s : List ℕ) → starts_with eqb s (35 ∷ []) ≡ is_remark s
remark_is [] = refl
remark_is (x ∷ s) = go (eqb x 35) refl
  where
    go : (t : Bool) → eqb x 35 ≡ t → eqb 35 x && true ≡ eqb x 35
    go true e = let q = eqb-true x 35 e in simp (eq-eqb 35 x (sym q), e)
    go false e = simp (ne_eqb 35 x (λ q. false≢true (sym e ∙ eq-eqb x 35 (sym q))), e)

pub passed_is : (s : List ℕ) → starts_with eqb s (35 ∷ []) || every is_semicolon s ≡ passed_over s
unfolding passed_over
passed_is s = ap (λ (b : Bool). b || every is_semicolon s) (remark_is s)

-- ---- values
pub behind_is : (s : List ℕ) → drop (suc (position_or_len (λ b. eqb b 59) s)) s ≡ behind 59 s
unfolding behind
behind_is [] = refl
behind_is (x ∷ s) = go (eqb x 59) (behind_is s)
  where
    go : (t : Bool) → drop (suc (position_or_len (λ b. eqb b 59) s)) s ≡ behind 59 s
        → drop (cond (not t) (1 + position_or_len (λ b. eqb b 59) s) 0) s ≡ (if t then s else behind 59 s)
    go true h = refl
    go false h = let e : 1 + position_or_len (λ b. eqb b 59) s ≡ suc (position_or_len (λ b. eqb b 59) s) = omega arith in ap (λ (n : ℕ). drop n s) e ∙ h

-- behind the first semicolon, as `position` tells of it
module _ (s : List ℕ) where
  pub behind_some : (k : ℕ) → Some k ≡ cond (ltb (position_or_len (λ b. eqb b 59) s) (length s)) (Some (position_or_len (λ b. eqb b 59) s)) None → take (length s - (k + 1)) (drop (k + 1) s) ≡ behind 59 s
  behind_some k h = tail_part (k + 1) s ∙ go (ltb (position_or_len (λ b. eqb b 59) s) (length s)) h
    where
      go : (t : Bool) → Some k ≡ cond t (Some (position_or_len (λ b. eqb b 59) s)) None → drop (k + 1) s ≡ behind 59 s
      go true e =
          let q : k ≡ position_or_len (λ b. eqb b 59) s = cc in
          ap (λ (n : ℕ). drop (n + 1) s) q ∙ ap (λ (n : ℕ). drop n s) (add-one (position_or_len (λ b. eqb b 59) s)) ∙ behind_is s
      go false e = absurd (let z : ◌≡◌ {A = ℕ} 0 1 = cc in omega arith)

  pub behind_none : None ≡ cond (ltb (position_or_len (λ b. eqb b 59) s) (length s)) (Some (position_or_len (λ b. eqb b 59) s)) None → [] ≡ behind 59 s
  behind_none h = go (ltb (position_or_len (λ b. eqb b 59) s) (length s)) refl h
    where
      go : (t : Bool) → ltb (position_or_len (λ b. eqb b 59) s) (length s) ≡ t → None ≡ cond t (Some (position_or_len (λ b. eqb b 59) s)) None → [] ≡ behind 59 s
      go true q e = absurd (let z : ◌≡◌ {A = ℕ} 0 1 = cc in omega arith)
      go false q e =
          let l = ltb-false (position_or_len (λ b. eqb b 59) s) (length s) q in
          sym (drop_of_length-le s {i = suc (position_or_len (λ b. eqb b 59) s)} (omega arith)) ∙ behind_is s

-- what is dropped stands behind what is left
pub suffix_of : (n : ℕ) (s : List ℕ) → drop (length s - length (drop n s)) s ≡ drop n s
suffix_of n s = go (ltb n (length s)) refl
  where
    len : length (drop n s) ≡ length s - n
    len = length-drop n s

    go : (t : Bool) → ltb n (length s) ≡ t → drop (length s - length (drop n s)) s ≡ drop n s
    go true q =
        let l = ltb-true n (length s) q in
        let e : length s - length (drop n s) ≡ n = omega (arith, len) in
        ap (λ (m : ℕ). drop m s) e
    go false q =
        let l = ltb-false n (length s) q in
        drop_of_length-le s {i = length s - length (drop n s)} (omega (arith, len)) ∙ sym (drop_of_length-le s {i = n} l)

module _ (l r q : List ℕ) (h : drop (length l - length r) l ≡ r) (e : q ≡ behind 59 r) where
  is_dropped : q ≡ drop (length l - length r + suc (position_or_len (λ b. eqb b 59) r)) l
  is_dropped = e ∙ sym (behind_is r) ∙ ap (drop (suc (position_or_len (λ b. eqb b 59) r))) (sym h) ∙ drop-drop (suc (position_or_len (λ b. eqb b 59) r)) (length l - length r) l

  pub suffix_short : length q ≤ length l
  suffix_short = omega (arith, ap length is_dropped, length-drop (length l - length r + suc (position_or_len (λ b. eqb b 59) r)) l)

  pub suffix_next : drop (length l - length q) l ≡ q
  suffix_next = ap (λ (z : List ℕ). drop (length l - length z) l) is_dropped ∙ suffix_of _ l ∙ sym is_dropped

  pub value_on : (i k : ℕ) → k < i → from_value (i - (k + 1)) q ≡ from_value (i - k) r
  unfolding from_value
  value_on i k m =
      let n : i - k ≡ suc (i - (k + 1)) = omega arith in
      ap (from_value (i - (k + 1))) e ∙ sym (ap (λ (j : ℕ). from_value j r) n)

-- the value in place i is the first of what stands from there on
value_later : (i : ℕ) (s : List ℕ) → get_or (values_of s) (suc i) [] ≡ get_or (values_of (behind 59 s)) i []
unfolding between behind
value_later zero [] = refl
value_later (suc i) [] = refl
value_later i (x ∷ s) = go (eqb x 59) (value_later i s)
  where
    first : (ss : List (List ℕ)) → get_or (with_first x ss) (suc i) [] ≡ get_or ss (suc i) []
    first [] = refl
    first (v ∷ vs) = refl

    go : (t : Bool) → get_or (between 59 s) (suc i) [] ≡ get_or (between 59 (behind 59 s)) i []
        → get_or (if t then ([] ∷ between 59 s) else with_first x (between 59 s)) (suc i) [] ≡ get_or (between 59 (if t then s else behind 59 s)) i []
    go true h = refl
    go false h = first (between 59 s) ∙ h

pub value_is : (i : ℕ) (s : List ℕ) → get_or (values_of s) i [] ≡ get_or (values_of (from_value i s)) 0 []
unfolding from_value
value_is zero s = refl
value_is (suc i) s = value_later i s ∙ value_is i (behind 59 s)

pub value_end : (i k : ℕ) (r : List ℕ) → i ≤ k → r ≡ from_value (i - k) r
unfolding from_value
value_end i k r m = let n : i - k ≡ 0 = omega arith in sym (ap (λ (j : ℕ). from_value j r) n)

pub value_begin : (i : ℕ) (s : List ℕ) → from_value (i - 0) s ≡ from_value i s
value_begin i s = ap (λ (j : ℕ). from_value j s) (sub-zero i)
