-- What the layer above may use of what changes cost.
pub use Rattle.cow_row.proofs.Around.{trades-within, copies-light}
