-- Document 01: what would be right in a refused field, by why it is refused, the record, and what stands before it.
-- Assumes nothing.
use Rattle.std.specs.Prelude.{ℕ, List}
use Rattle.fields.specs.Accounts.{account_of}
use Rattle.fields.specs.Bytes.{part}
use Rattle.field_accounts.specs.declared.Account.{Account}
use Rattle.field_accounts.specs.declared.Account.TheVariants as account
use Rattle.figures.specs.Figures.{amount}
use Rattle.figures.specs.Groups.{empty_group}
use Rattle.layout.specs.declared.Reason.{Reason}
use Rattle.layout.specs.declared.Reason.TheVariants.{NotFixed, WrongAccount, Disagrees, WrongFigure}
use Rattle.rules.specs.Codes.{service_code, kind_of}
use Rattle.rules.specs.Messages.{no_places}
use Rattle.rules.specs.declared.Assignment.{Assignment}
use Rattle.rules.specs.declared.Mode.{Mode}
use Rattle.rules.specs.declared.Kind.{Kind}
use Rattle.rules.specs.declared.Kind.TheVariants.{R20}
use Rattle.tool_walk.specs.declared.Seen.{Seen}
use Rattle.tool_fixed.specs.Fixed.{fixed_for}
use Rattle.tool_fixed.specs.declared.Remedy.{Remedy}
use Rattle.tool_fixed.specs.declared.Remedy.TheVariants.{Unknown, Digit, NoDigit}
use Rattle.tool_expected.specs.Expected.{repeated_for, figure_for}
use Rattle.tool_remedies.specs.declared.NextTypes.{NextTypes}

-- ---- 11: the account's last digit
abbrev pub digit_of : Account → Remedy
digit_of account.Right = Unknown
digit_of (account.WrongDigit d) = Digit d
digit_of account.NoRightDigit = NoDigit
digit_of account.NotDigits = Unknown

abbrev pub account_part : Kind → List ℕ → List ℕ
account_part R20 r = part 25 35 r
account_part k r = part 22 32 r

abbrev pub account_for : Kind → List ℕ → Remedy
account_for k r = digit_of (account_of (account_part k r))

-- ---- 5 and 6: the record types that may stand here
abbrev pub at_hand : Seen → Assignment
at_hand s =
    record { last = s.last; service = s.service; totals = s.totals; number = s.number; code = s.code; due = amount 0; group = empty_group; places = no_places }

abbrev pub next_types : Mode → Seen → NextTypes
next_types m s = record { mode = m; behind = at_hand s }

-- ---- by what the field is refused for
abbrev pub remedy_for : Reason → ℕ → Seen → List ℕ → Remedy
remedy_for NotFixed field s r = fixed_for (kind_of r) field (service_code r)
remedy_for WrongAccount field s r = account_for (kind_of r) r
remedy_for Disagrees field s r = repeated_for (kind_of r) field s
remedy_for WrongFigure field s r = figure_for (kind_of r) field s
remedy_for n field s r = Unknown
