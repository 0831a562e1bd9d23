-- Laws of weights, and of the runs that nodes of kinds below 64 derive, as other crates name them.
pub use Rattle.lengths.proofs.Kinded.{Kinded, head_small}
pub use Rattle.weights.specs.Laws.{joined_light, joined_heavy}
