-- Document 01, "Field kinds" and "Refusal numbers": a field's rule is a test of its bytes and the number that refuses it.
-- Assumes nothing.
use Rattle.std.specs.Prelude.{ℕ, List, [], ◌∷◌, Bool, false, ◌||◌}
use Prim.Native.String.{String}
use Rattle.fields.specs.Bytes.{every, same, text, is_digit, is_zero, is_text}
use Rattle.fields.specs.Accounts.{account_of, is_right}
use Rattle.layout.specs.declared.Reason.{Reason}
use Rattle.layout.specs.declared.Reason.TheVariants.{NotFixed, WrongForm, WrongAccount}

pub record Rule : Type 0 where
  pub test : List ℕ → Bool
  pub reason : Reason

abbrev pub rule : (List ℕ → Bool) → Reason → Rule
rule t x = record { test = t; reason = x }

-- Digits, else 8
abbrev pub digits : Rule
digits = rule (every is_digit) WrongForm

-- Z: all zeros, else 7
abbrev pub zeros : Rule
zeros = rule (every is_zero) NotFixed

-- Text, else 8
abbrev pub textual : Rule
textual = rule (every is_text) WrongForm

-- a fixed text, else 7
abbrev pub fixed : String → Rule
fixed t = rule (λ s. same s (text t)) NotFixed

-- one of the listed texts, else 7
unfoldable pub one_of : List String → List ℕ → Bool
one_of [] s = false
one_of (t ∷ ts) s = same s (text t) || one_of ts s

abbrev pub listed : List String → Rule
listed ts = rule (one_of ts) NotFixed

-- of eleven digits, the last is right, else 11
abbrev pub right_account : Rule
right_account = rule (λ s. is_right (account_of s)) WrongAccount
