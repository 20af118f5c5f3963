-- What the calls of a step are to the ledger.
pub use Rattle.fdp_ledger.specs.Calls.{MayTell, OnlyFetches}
