-- Document 02, No. 1: values of which each fits into its field. No. 2: the text of a message.
-- Assumes nothing.
use Rattle.std.specs.Prelude.{ℕ, ◌≡◌, ◌≤◌, List, [], ◌∷◌, ◌++◌, Bool, true, false, eqb, length}
use borrow.Author.Tests.{leb-true}
use Rattle.rules.specs.Fields.{message_of}
use Rattle.operations.specs.Making.{Put, code_by, message, notification}

abbrev pub EachFits : List Put → Type 0
EachFits [] = Unit {0}
EachFits (p ∷ ps) = (p.fits ≡ true) × EachFits ps

-- the text of a message fits, whether or not a notification code stands before it
pub words_fit : (service line column : ℕ) (words : List ℕ) → EachFits (notification service ++ message (message_of service) line column words) → length words ≤ 40
unfolding notification
words_fit service line column words h = go (eqb service 4) h
  where
    go : (b : Bool) → EachFits (code_by b ++ message (message_of service) line column words) → length words ≤ 40
    go true f = leb-true (length words) 40 f.1.1.0
    go false f = leb-true (length words) 40 f.1.1.1.0
