-- What the words of a command line ask, as the tool's help page has it: a command, the process day DDMMYY, the number K of assignments.
-- Assumes nothing.
use Rattle.std.specs.Prelude.{ℕ, List, Option, Some, None, ◌&&◌, leb, eqb, length, if◌then◌else◌}
use Rattle.fields.specs.Bytes.{every, same, is_digit, text}
use Rattle.fields.specs.Numbers.{value}
use Rattle.dates.specs.declared.ProcessDay.{ProcessDay}
use Rattle.program_lines.specs.Days.{day_written}
use Rattle.tool_command.specs.declared.Command.{Command}
use Rattle.tool_command.specs.declared.Command.TheVariants.{Check, Make, Close, Join, Part, Help}

-- the command that a word names, in these letters and no others
unfoldable pub command_from : List ℕ → Option Command
command_from word =
    if same word (text "check") then Some Check
    else (if same word (text "make") then Some Make
    else (if same word (text "close") then Some Close
    else (if same word (text "join") then Some Join
    else (if same word (text "part") then Some Part
    else (if same word (text "help") then Some Help else None)))))

-- the words of a command line, `pay` and the command among them: pay part DDMMYY FILE K OUT1 OUT2 has seven
abbrev pub words_of : Command → ℕ
words_of Check = 4
words_of Make = 4
words_of Close = 5
words_of Join = 6
words_of Part = 7
words_of Help = 2

-- the day 0 0 0, which is no date
abbrev pub no_day : ProcessDay
no_day = record { year = 0; month = 0; day = 0 }

-- a word of six digits is the day that it names, DDMMYY; every other word is no date
unfoldable pub day_from : List ℕ → ProcessDay
day_from word = if eqb (length word) 6 && every is_digit word then day_written (value word) else no_day

-- a word of at most 17 digits is its number; every other word is 0, and so is the word without a digit
unfoldable pub number_from : List ℕ → ℕ
number_from word = if leb (length word) 17 && every is_digit word then value word else 0
