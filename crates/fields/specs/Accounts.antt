-- Document 01, "Field kinds", Account. Passed on from `field_accounts`.
-- Assumes nothing.
pub use Rattle.field_accounts.specs.Accounts.{weights, remainder, last_digit, is_right, is_number}
unfoldable pub use Rattle.field_accounts.specs.Accounts.{weighted, right_digit, judged, account_of}
pub use Rattle.field_accounts.specs.declared.Account.{Account}
pub use Rattle.field_accounts.specs.declared.Account.TheVariants.{Right, WrongDigit, NoRightDigit, NotDigits}
