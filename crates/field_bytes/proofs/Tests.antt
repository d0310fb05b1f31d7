-- Two tests joined, and the loop that joins one test more at each turn and never leaves early.
-- Assumes nothing.
use mathlib.Core.Path.{◌≡◌, refl, ap, sym, ◌∙◌}
use mathlib.Core.Bool.{Bool, true, false, ◌&&◌, and_assoc, and-true}

pub and_left : (a b : Bool) → a && b ≡ true → a ≡ true
and_left true b h = refl
and_left false b h = h

pub and_right : (a b : Bool) → a && b ≡ true → b ≡ true
and_right true b h = h
and_right false b h = cc

pub and_both : (a b : Bool) → a ≡ true → b ≡ true → a && b ≡ true
and_both a b p q = rw p q

-- one turn: what is left of the whole is a test and what is left behind it
pub one_more : (ok test rest left whole : Bool) → test && rest ≡ left → ok && left ≡ whole → ok && test && rest ≡ whole
one_more ok test rest left whole e h = and_assoc ok test rest ∙ ap (λ (x : Bool). ok && x) e ∙ h

-- the last turn is done: nothing is left to fail
pub none_left : (ok left whole : Bool) → left ≡ true → ok && left ≡ whole → ok ≡ whole
none_left ok left whole e h = sym (and-true ok) ∙ ap (λ (x : Bool). ok && x) (sym e) ∙ h
