-- What an account that is exactly once says to its users.
use Rattle.gz_promise.specs.Accounts.{Account}
use Rattle.gz_promise.specs.Clients.{ServesUsers}
use Rattle.gz_promise.specs.Promise.{ExactlyOnce}
use Rattle.gz_promise.proofs.Clients.{singles_read, transactions_read}
use Rattle.gz_promise.proofs.Counts.{counts}

pub serves : (a : Account) (once : ExactlyOnce a) → ServesUsers a once
serves a once = record {
  transactions = λ k offset text client ts waiting has are wrote. transactions_read a once k offset text client ts waiting has are wrote;
  messages = λ k offset text client ls has are wrote. singles_read a once k offset text client ls has are wrote;
  counts = λ key app. counts a once key app;
}
