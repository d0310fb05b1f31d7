use Prim.Native.Nat.{ℕ}
use mathlib.Core.Path.{◌≡◌, sym, ap, ◌∙◌}
use mathlib.Core.Bool.{true}
use mathlib.Core.List.{List}
use Rattle.fields.specs.Bytes.{same, every, text}
use Rattle.fields.specs.Numbers.{code_of, value_from}
use Rattle.fields.proofs.Every.{same_is}
use Rattle.rules.specs.Codes.{kind_for}
use Rattle.run_order.proofs.kind_of.Goals as goal

-- a field that is the same as a text is of the type that the text writes
of-text : (s t : List ℕ) → same s t ≡ true → kind_for (code_of t) ≡ kind_for (code_of s)
of-text s t h = ap (λ (x : List ℕ). kind_for (code_of x)) (sym (same_is s t h))

pub returns-then-same_at : goal.returns-then-same_at
unfolding kind_for code_of every value_from
returns-then-same_at c = of-text _ (text "31") (sym c.same_at.ensures ∙ c.if-same_at.true)

pub returns-then-same_at-2 : goal.returns-then-same_at-2
unfolding kind_for code_of every value_from
returns-then-same_at-2 c = of-text _ (text "30") (sym c.same_at-2.ensures ∙ c.if-same_at-2.true)
