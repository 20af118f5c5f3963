-- passed on to the crates above
pub use Rattle.fdp_loading.proofs.fdp_durability as fdp_durability
pub use Rattle.fdp_loading.proofs as fdp_loading
pub use Rattle.fdp_loading.proofs.fdp_outline as fdp_outline
pub use Rattle.fdp_loading.proofs.fdp_survival as fdp_survival
pub mod Advancing
pub mod Apart
pub mod Begins
pub mod Called
pub mod Checkpoints
pub mod Collected
pub mod Collecting
pub mod Commanded
pub mod Commits
pub mod Ends
pub mod Grown
pub mod Kept
pub mod Loading
pub mod Looping
pub mod Made
pub mod Once
pub mod Outlasting
pub mod Pages
pub mod Passing
pub mod Places
pub mod Placing
pub mod Pushed
pub mod Reading
pub mod Sure
pub mod Refusals
pub mod Relocated
pub mod Rooms
pub mod Saves
pub mod Silence
pub mod Sound
pub mod Storing
pub mod Unfailing
pub mod Logs
pub mod Wholes
pub mod Roomy
pub mod RoomySteps
pub mod Isolating
pub mod IsolatedSteps
