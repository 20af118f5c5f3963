-- Where pages stand and what relocation moves, read off the entries.
use Rattle.std.specs.Prelude.{ℕ, ◌/◌, Bool, true, false, ◌&&◌, ◌||◌, List, [], ◌∷◌, ◌++◌, ◌==◌, nat_lt, Option, Some, None, if◌then◌else◌, find, filter, flat_map, fold, map, option_and_then, option_map}
use Rattle.std.specs.List.{list_any}
use Rattle.std.specs.Option.{option_map_or}
use Rattle.fdp_base.specs.declared.config.DriveConfig.{DriveConfig}
use Rattle.fdp_base.specs.declared.entry.BlockName.{BlockName}
use Rattle.fdp_base.specs.declared.entry.Entry.{Entry}
use Rattle.fdp_base.specs.declared.entry.Entry.TheVariants as entries
use Rattle.fdp_base.specs.declared.entry.Spot.{Spot}
use Rattle.fdp_base.specs.CommandKinds.{blocks_written, nsid_of}
use Rattle.fdp_base.specs.Numbers.{numbers_below, numbers_from, with_at}
use Rattle.fdp_rules.specs.PlainState.{Going, PageName, PageName.found, PageName.written, PlainState}
use Rattle.fdp_rules.specs.Point.{Copy, Point, Trail}
use Rattle.fdp_rules.specs.Room.{namespace_ids, size_of}

-- the group in which a data unit lies
abbrev pub group_of : DriveConfig → ℕ → ℕ
group_of c unit = unit / c.units

abbrev pub is_spot : Spot → Spot → Bool
is_spot a b = a.unit == b.unit && a.page == b.page

-- the page of a write with this ticket and index
abbrev pub is_page_of : ℕ → ℕ → PageName → Bool
is_page_of ticket index (written t i) = ticket == t && index == i
is_page_of ticket index (found spot) = false

-- a page that was found stands where it was found; no other stands anywhere yet
abbrev pub first_site : PageName → Option Spot
first_site (written ticket index) = None
first_site (found spot) = Some spot

abbrev pub first_trail : Trail
first_trail = record { site = first_site; copies = λ rg. [] }

-- the old pages of these copies lie in one unit and ascend
abbrev pub ascends : List Copy → Bool
ascends [] = true
ascends (x ∷ []) = true
ascends (x ∷ y ∷ xs) = (x.from.unit == y.from.unit) && nat_lt x.from.page y.from.page && ascends (y ∷ xs)

-- the longest run at the end of these copies whose old pages lie in one unit and ascend
abbrev pub last_run : List Copy → List Copy
last_run [] = []
last_run (x ∷ xs) = if ascends (x ∷ xs) then x ∷ xs else last_run xs

-- the relocation pass under way in a group
abbrev pub pass_in : Trail → ℕ → List Copy
pass_in t rg = last_run (t.copies rg)

-- where a pass moves what stands at a page
abbrev pub moved_by : List Copy → Spot → Spot
moved_by pass spot = option_map_or (λ x. x.to) (find (λ x. is_spot x.from spot) pass) spot

-- where a page stands once a unit is erased
abbrev pub outside : ℕ → Spot → Option Spot
outside unit spot = if spot.unit == unit then None else Some spot

-- what an entry leaves of sites and copies
unfoldable pub traced_by : DriveConfig → Trail → Entry → Trail
traced_by c t (entries.Host h) = t
traced_by c t (entries.Started s) = t
traced_by c t (entries.Placed p) = record t {
  site = λ name. if is_page_of p.ticket p.index name then Some (record { unit = p.unit; page = p.page }) else t.site name;
}
traced_by c t (entries.Copied copied) = record t {
  copies = with_at t.copies (group_of c copied.from.unit) (t.copies (group_of c copied.from.unit) ++ record { from = copied.from; to = copied.to } ∷ []);
}
traced_by c t (entries.Moved m) = record {
  site = λ name. option_map (moved_by (pass_in t m.rg)) (t.site name);
  copies = with_at t.copies m.rg [];
}
traced_by c t (entries.Erased e) = record {
  site = λ name. option_and_then (outside e.unit) (t.site name);
  copies = with_at t.copies (group_of c e.unit) [];
}
traced_by c t (entries.Retired r) = record t { copies = with_at t.copies (group_of c r.unit) [] }
traced_by c t (entries.Aside a) = record t { copies = with_at t.copies (group_of c a.unit) [] }
traced_by c t (entries.Shut s) = t
traced_by c t (entries.Worn w) = record t { copies = with_at t.copies w.rg [] }
traced_by c t entries.Reopened = t

-- the sites and copies after the entries of a run
unfoldable pub trail_of : DriveConfig → List Entry → Trail
trail_of c es = fold (traced_by c) first_trail es

-- where a block stands
abbrev pub site_of : Point → ℕ → ℕ → Option Spot
site_of p nsid lba = option_and_then (λ b. p.trail.site b.page) (p.state.blocks nsid lba)

abbrev pub stands_at : Option Spot → Spot → Bool
stands_at site spot = option_map_or (is_spot spot) site false

-- the blocks of a namespace that stand at a page, by address
abbrev pub blocks_in : Point → Spot → ℕ → List BlockName
blocks_in p spot nsid =
    map (λ lba. record { nsid = nsid; lba = lba }) (filter (λ lba. stands_at (site_of p nsid lba) spot) (numbers_below (size_of p.state nsid)))

-- the blocks that stand at a page, by identifier and address
abbrev pub blocks_at : Point → Spot → List BlockName
blocks_at p spot = flat_map (blocks_in p spot) namespace_ids

-- the blocks that the pass of a group moves, by page
abbrev pub moved_blocks : Point → ℕ → List BlockName
moved_blocks p rg = flat_map (λ (x : Copy). blocks_at p x.from) (pass_in p.trail rg)

-- the namespace of a going write is there, and is the one that it was when the write was started
abbrev pub is_there : PlainState → Going → Bool
is_there s g = option_map_or (λ x. x.birth == g.birth) (s.namespaces (nsid_of g.command)) false

-- a page of a going write stands at this page
abbrev pub holds_page_of : Point → Spot → Going → Bool
holds_page_of p spot g =
    is_there p.state g && list_any (λ index. stands_at (p.trail.site (written g.ticket index)) spot) (numbers_below (blocks_written g.command))

-- a page is live: a block stands there, or a page of a going write whose namespace is there
abbrev pub is_live : DriveConfig → Point → Spot → Bool
is_live c p spot =
    list_any (λ nsid. list_any (λ lba. stands_at (site_of p nsid lba) spot) (numbers_below (size_of p.state nsid))) namespace_ids
    || list_any (λ queue. option_map_or (holds_page_of p spot) (p.state.going queue) false) (numbers_from 1 c.queues)

-- the pages of a unit that are live
abbrev pub live_pages : DriveConfig → Point → ℕ → List ℕ
live_pages c p unit = filter (λ page. is_live c p (record { unit = unit; page = page })) (numbers_below c.unit_pages)
