-- Document 01, "Refusal numbers": what is found first counts.
-- Assumes nothing.
use Rattle.std.specs.Prelude.{ℕ, Bool, if◌then◌else◌, Result, Ok, Err}
use Rattle.fields.specs.Accounts.{Account, Right, WrongDigit, NoRightDigit, NotDigits}
use Rattle.layout.specs.declared.Fault.{Fault}
use Rattle.layout.specs.declared.Reason.{Reason}
use Rattle.layout.specs.declared.Reason.TheVariants.{NoProcessDay, BrokenLength, TooManyRecords, NoLineFeed, OutOfPlace, EndsEarly, NotFixed, WrongForm, NotADate, OutOfTime, WrongAccount, Disagrees, PastLimit, NotAddedUp, KeySeen, TooManyAssignments, PlaceTaken, WrongFigure, NoRoom, OtherSender, NoBoundaryThere, TooLong, MessageFull}

-- document 01's number of each
abbrev pub number_of : Reason → ℕ
number_of NoProcessDay = 1
number_of BrokenLength = 2
number_of TooManyRecords = 3
number_of NoLineFeed = 4
number_of OutOfPlace = 5
number_of EndsEarly = 6
number_of NotFixed = 7
number_of WrongForm = 8
number_of NotADate = 9
number_of OutOfTime = 10
number_of WrongAccount = 11
number_of Disagrees = 12
number_of PastLimit = 13
number_of NotAddedUp = 14
number_of KeySeen = 15
number_of TooManyAssignments = 16
number_of PlaceTaken = 17
number_of WrongFigure = 18
number_of NoRoom = 19
number_of OtherSender = 20
number_of NoBoundaryThere = 21
number_of TooLong = 22
number_of MessageFull = 23

abbrev pub fault : Reason → ℕ → Fault
fault reason field = record { reason = reason; field = field }

-- no fault, or a refusal number and a field
abbrev pub Finding : Type 0
Finding = Result (Unit {0}) Fault

abbrev pub sound : Finding
sound = Ok tt

-- what is found, with a value where it is sound
abbrev pub brings : {A : Type 0} → Finding → A → Result A Fault
brings (Ok u) v = Ok v
brings (Err e) v = Err e

-- what was found before, or else what is found next
abbrev pub or_else : Finding → Finding → Finding
or_else (Ok u) next = next
or_else (Err e) next = Err e

-- what was found before, or else the fault of a test that does not hold
abbrev pub demanded : Finding → Bool → Reason → ℕ → Finding
demanded before ok n k = or_else before (if ok then sound else Err (fault n k))

-- what an account is refused with in its field, by what reading it answers: the one map from that answer to a number
abbrev pub account_found : Account → ℕ → Finding
account_found Right k = sound
account_found (WrongDigit d) k = Err (fault WrongAccount k)
account_found NoRightDigit k = Err (fault WrongAccount k)
account_found NotDigits k = Err (fault WrongForm k)
