-- Document 01, "Layouts", record 30: what a sound record brings.
-- Assumes nothing.
use Rattle.std.specs.Prelude.{ℕ, List}
use Rattle.figures.specs.Figures.{transaction_number}
use Rattle.rules.specs.Fields.{number_in, transaction_field}
use Rattle.rules.specs.Payments.{date_in, amount_in}
use Rattle.record_30.specs.declared.Payment.{Payment}

abbrev pub payment_in : List ℕ → Payment
payment_in r =
    record {
      number = transaction_number (number_in transaction_field r);
      date = date_in r;
      amount = amount_in r;
    }
