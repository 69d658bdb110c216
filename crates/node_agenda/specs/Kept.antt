-- A root that is to be purged.
use Rattle.state_ids.specs.Ids.{Id}
use Rattle.state_ids.specs.declared.status.LraStatus.{LraStatus}

-- a root that was kept for as long as it is to be, and what it showed meanwhile
pub record Kept : Type 0 where
  pub root : Id
  pub seen : LraStatus
