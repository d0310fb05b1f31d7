-- The number that a caller is told is of one reason alone, so that a law about a reason is a law about its number.
-- Assumes nothing.
use Prim.Native.Nat.{ℕ}
use mathlib.Core.Path.{◌≡◌, refl, sym, ap, ◌∙◌}
use lib.Dec.{eqb}
use Rattle.std.specs.Prelude.{if◌then◌else◌}
use Rattle.layout.specs.Findings.{number_of}
use Rattle.layout.specs.declared.Reason.{Reason}
use Rattle.layout.specs.declared.Reason.TheVariants.{NoProcessDay, BrokenLength, TooManyRecords, NoLineFeed, OutOfPlace, EndsEarly, NotFixed, WrongForm, NotADate, OutOfTime, WrongAccount, Disagrees, PastLimit, NotAddedUp, KeySeen, TooManyAssignments, PlaceTaken, WrongFigure, NoRoom, OtherSender, NoBoundaryThere, TooLong, MessageFull}

-- the reason of a number
reason_of : ℕ → Reason
reason_of n =
    if eqb n 1 then NoProcessDay else
    (if eqb n 2 then BrokenLength else
    (if eqb n 3 then TooManyRecords else
    (if eqb n 4 then NoLineFeed else
    (if eqb n 5 then OutOfPlace else
    (if eqb n 6 then EndsEarly else
    (if eqb n 7 then NotFixed else
    (if eqb n 8 then WrongForm else
    (if eqb n 9 then NotADate else
    (if eqb n 10 then OutOfTime else
    (if eqb n 11 then WrongAccount else
    (if eqb n 12 then Disagrees else
    (if eqb n 13 then PastLimit else
    (if eqb n 14 then NotAddedUp else
    (if eqb n 15 then KeySeen else
    (if eqb n 16 then TooManyAssignments else
    (if eqb n 17 then PlaceTaken else
    (if eqb n 18 then WrongFigure else
    (if eqb n 19 then NoRoom else
    (if eqb n 20 then OtherSender else
    (if eqb n 21 then NoBoundaryThere else
    (if eqb n 22 then TooLong else MessageFull)))))))))))))))))))))

told : (a : Reason) → reason_of (number_of a) ≡ a
unfolding reason_of
told NoProcessDay = refl
told BrokenLength = refl
told TooManyRecords = refl
told NoLineFeed = refl
told OutOfPlace = refl
told EndsEarly = refl
told NotFixed = refl
told WrongForm = refl
told NotADate = refl
told OutOfTime = refl
told WrongAccount = refl
told Disagrees = refl
told PastLimit = refl
told NotAddedUp = refl
told KeySeen = refl
told TooManyAssignments = refl
told PlaceTaken = refl
told WrongFigure = refl
told NoRoom = refl
told OtherSender = refl
told NoBoundaryThere = refl
told TooLong = refl
told MessageFull = refl

pub numbers_apart : (a b : Reason) → number_of a ≡ number_of b → a ≡ b
numbers_apart a b e = sym (told a) ∙ ap reason_of e ∙ told b
