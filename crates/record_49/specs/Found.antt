-- Where a 49 has its message.
-- Assumes nothing.
use Rattle.std.specs.Prelude.{ℕ, ◌+◌}
use Rattle.rules.specs.Fields.{field, Message}

-- a message whose line is field k and stands at position p: in service 01 field 7 at 17, in service 04 field 6 at 16
abbrev pub message_from : ℕ → ℕ → Message
message_from k p =
    record {
      line = field k p (p + 2);
      column = field (k + 1) (p + 3) (p + 3);
      text = field (k + 2) (p + 4) (p + 43);
      filler = field (k + 3) (p + 44) 80;
    }
