-- Keys that two files share: found in the lists of keys, and the first record that brings one.
-- Assumes nothing.
use Prim.Native.Nat.{ℕ, ◌+◌, ◌≤◌, ◌<◌}
use mathlib.Core.Path.{◌≡◌, refl, sym, ap, subst, ◌∙◌}
use mathlib.Core.List.{List, [], ◌∷◌}
use mathlib.Core.Bool.{Bool, true, false, ◌||◌, or-false}
use native.Mathlib.Numerals.{add-one}
use lib.ListN.{length, get_or, drop, drop_of_length-le}
use lib.Seq.{drop-cons}
use Rattle.std.specs.Prelude.{if◌then◌else◌}
use Rattle.std.specs.List.{list_any}
use Rattle.layout.specs.Rows.{member}
use Rattle.operations.specs.Joining.{shares, shared_at}
use Rattle.rules.specs.Codes.{record_code, key_in}
use Rattle.rules.specs.Growth.{keys_for, keys}
use Rattle.rules.specs.declared.Kind.{Kind}
use Rattle.rules.proofs.Codes.{twenty, no_key}
use Rattle.join_pairs.specs.Pairs.{KeyReadable, KeysReadable}

-- ---- over the keys
pub shares_any : (ks l : List ℕ) → list_any (λ k. member k ks) l ≡ shares ks l
unfolding shares
shares_any ks [] = refl
shares_any ks (k ∷ l) = ap (λ (b : Bool). member k ks || b) (shares_any ks l)

-- ---- over the records
pub brings_none : (ks r : List ℕ) (n : ℕ) → n ≡ record_code r → (n ≡ 20 → ⊥) → false ≡ shares ks (keys r)
unfolding shares
brings_none ks r n e h = ap (shares ks) (sym (no_key (record_code r) r (λ q. h (e ∙ q))).0)

pub brings_key : (ks r : List ℕ) (n x : ℕ) (b : Bool) → n ≡ record_code r → n ≡ 20 → x ≡ key_in r → b ≡ member x ks → b ≡ shares ks (keys r)
unfolding shares
brings_key ks r n x b e h k q =
    q ∙ ap (λ (y : ℕ). member y ks) k ∙ sym (or-false (member (key_in r) ks)) ∙ ap (λ (y : Kind). shares ks (keys_for y r)) (sym (twenty (record_code r) (sym e ∙ h)))

-- after k records none of which brings such a key
pub record Searched (rs : List (List ℕ)) (ks : List ℕ) (k : ℕ) : Type 0 where
  pub readable : KeysReadable (drop k rs)
  pub same : shared_at 0 ks rs ≡ shared_at k ks (drop k rs)

pub searched_none : (rs : List (List ℕ)) (ks : List ℕ) → KeysReadable rs → Searched rs ks 0
searched_none rs ks h = record { readable = h; same = refl }

module _ (rs : List (List ℕ)) (ks : List ℕ) (k : ℕ) (s : Searched rs ks k) where
  pub searched_all : length rs ≤ k → 0 ≡ shared_at 0 ks rs
  unfolding shared_at
  searched_all h = sym (s.same ∙ ap (shared_at k ks) (drop_of_length-le rs {i = k} h))

  module _ (h : k < length rs) where
    here : drop k rs ≡ get_or rs k [] ∷ drop (k + 1) rs
    here = rw (add-one, drop-cons rs k [] h)

    pub readable_here : KeyReadable (get_or rs k []) × KeysReadable (drop (k + 1) rs)
    unfolding KeysReadable
    readable_here = subst KeysReadable here s.readable

    module _ (x : Bool) (e : x ≡ shares ks (keys (get_or rs k []))) where
      by_one : shared_at 0 ks rs ≡ (if x then k + 1 else shared_at (k + 1) ks (drop (k + 1) rs))
      unfolding shared_at
      by_one = s.same ∙ ap (shared_at k ks) here ∙ ap (λ (y : Bool). if y then k + 1 else shared_at (k + 1) ks (drop (k + 1) rs)) (sym e)

      pub found_here : x ≡ true → k + 1 ≡ shared_at 0 ks rs
      found_here t = sym (by_one ∙ ap (λ (y : Bool). if y then k + 1 else shared_at (k + 1) ks (drop (k + 1) rs)) t)

      pub searched_next : x ≡ false → Searched rs ks (k + 1)
      searched_next t = record { readable = readable_here.1; same = by_one ∙ ap (λ (y : Bool). if y then k + 1 else shared_at (k + 1) ks (drop (k + 1) rs)) t }
