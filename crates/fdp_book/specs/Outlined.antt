-- The outline of a drive at a point, and what a saved change makes of it.
use Rattle.std.specs.Prelude.{◌≡◌, ℕ, ◌+◌, ◌*◌, ◌<◌, ◌^◌, ◌≤◌, ◌++◌, IsTrue, List, [], ◌∷◌, None, Option, Some, length}
use Rattle.fdp_base.specs.declared.config.DriveConfig.{DriveConfig}
use Rattle.fdp_base.specs.declared.entry.Entry.{Entry}
use Rattle.fdp_base.specs.declared.entry.Totals.{Totals}
use Rattle.fdp_base.specs.Config.{IsValidConfig}
use Rattle.fdp_book.specs.Changes.{IsChangeOfEntry}
use Rattle.fdp_outline.specs.declared.moved_block.MovedBlock.{MovedBlock}
use Rattle.fdp_outline.specs.Outline.{IsOutlineOf}
use Rattle.fdp_readings.specs.Drawn.{drawn}
use Rattle.fdp_records.specs.declared.change.Change.{Change}
use Rattle.fdp_records.specs.Limits.{is_within_limits}
use Rattle.fdp_rules.specs.History.{Found, point_of}
use Rattle.fdp_rules.specs.Next.{next}
use Rattle.fdp_rules.specs.Point.{Point}
use Rattle.fdp_snapshot.specs.declared.state.Summary.{Summary}

-- an outline says what is drawn at a point, and has the totals there
pub record IsOutlineAt (c : DriveConfig) (p : Point) (s : Summary) : Type 0 where
  pub outline : IsOutlineOf c (drawn c p) s
  pub totals : s.totals ≡ p.totals

-- the sums behind so many entries are far below the last values of their counts
pub record AreFew (es : List Entry) (t : Totals) : Type 0 where
  pub few_host_blocks : t.host_blocks ≤ 2 ^ 62 + 64 * length es
  pub few_media_blocks : t.media_blocks ≤ 2 ^ 62 + length es
  pub few_erases : t.erases ≤ 2 ^ 62 + length es

-- so many pages of data more were programmed, and so many units erased, at the position behind; all else stays
pub record Counts (pages erases : ℕ) (old new : Summary) : Type 0 where
  pub is : new ≡ record old {
    totals = record old.totals { position = old.totals.position + 1; media_blocks = old.totals.media_blocks + pages; erases = old.totals.erases + erases };
  }

-- with an entry more than a history has an outline is that behind it, and the sums are few
pub record IsOutlineBehind (c : DriveConfig) (found : Found) (es : List Entry) (e : Entry) (s : Summary) : Type 0 where
  pub at : IsOutlineAt c (next c (point_of c found es) e) s
  pub few : AreFew (es ++ e ∷ []) s.totals

-- a change is that of an entry at a point of which an outline is
pub record CanMake (c : DriveConfig) (change : Change) (moved : List MovedBlock) (s : Summary) : Type 0 where
  pub config : IsValidConfig c
  pub point : Point
  pub outline : IsOutlineAt c point s
  pub index : point.state.index < length c.fdp
  pub entry : Entry
  pub of_entry : IsChangeOfEntry c point entry change moved

-- with the change an outline at a point is the outline behind each entry that the change saves there
pub record Makes (c : DriveConfig) (change : Change) (moved : List MovedBlock) (old new : Summary) : Type 0 where
  pub behind : (p : Point) (e : Entry) → IsOutlineAt c p old → IsChangeOfEntry c p e change moved → IsOutlineAt c (next c p e) new

-- the same of the change of a move; a move that takes no block along has none
abbrev pub CanMakeMove : DriveConfig → Option Change → List MovedBlock → Summary → Type 0
CanMakeMove c None moved s = Unit {0}
CanMakeMove c (Some change) moved s = CanMake c change moved s × IsTrue (is_within_limits change)

abbrev pub MakesMove : DriveConfig → Option Change → List MovedBlock → Summary → Summary → Type 0
MakesMove c None moved old new = Counts 0 0 old new
MakesMove c (Some change) moved old new = Makes c change moved old new
