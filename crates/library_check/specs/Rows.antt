-- The commands: what each reads and says, and the limits that its inputs pass.
pub mod App
pub mod Check
pub mod Compose
pub mod Migrate
pub mod Trial
pub mod Verify
