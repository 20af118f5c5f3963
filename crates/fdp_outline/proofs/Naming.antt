-- What a change that names only what there is gives, kind by kind.
use Rattle.std.proofs.Common.{◌≡◌, ℕ, ◌*◌, ◌-◌, ◌<◌, ◌≤◌, Bool, true, false, IsTrue, List, [], ◌∷◌, length, Option, None, Some, refl, ap, sym, ◌∙◌, arith}
use Rattle.std.specs.Prelude.{◌&&◌, if◌then◌else◌, is_some, not, nat_le, nat_lt, option_map, slice_get, slice_index}
use Rattle.std.specs.List.{list_all}
use Rattle.std.specs.Option.{option_and_then, option_map_or}
use Rattle.std.proofs.lemmas.Bool.{leb-true, ltb-true}
use Rattle.std.proofs.lemmas.Nat.{mul-lt}
use Rattle.fdp_base.specs.declared.config.DriveConfig.{DriveConfig}
use Rattle.fdp_base.specs.declared.entry.Totals.{Totals}
use Rattle.fdp_base.specs.Config.{IsInRange}
use Rattle.fdp_base.specs.Geometry.{IsWithin, data_units}
use Rattle.fdp_base.specs.Numbers.{has_repeat}
use Rattle.fdp_base.specs.Placement.{geometry_of, handle_count}
use Rattle.fdp_records.specs.declared.change.Change.{Change}
use Rattle.fdp_records.specs.declared.change.Change.TheVariants as changes
use Rattle.fdp_records.specs.declared.change.UnitPages.{UnitPages}
use Rattle.fdp_image.specs.Areas.{data_pages}
use Rattle.fdp_image.specs.Checkpoint.{in_place, namespace_of, reading_of_state}
use Rattle.fdp_image.specs.CheckpointRows.{is_namespace_id}
use Rattle.fdp_image.specs.Reading.{Reading}
use Rattle.fdp_image.specs.Fits.{are_data_pages, are_of_data_unit, handles_in, has_namespace, has_room, is_free_id, is_handle_list, lies_within, may_have, names_what_is}
use Rattle.fdp_snapshot.specs.declared.space.Space.{Space}
use Rattle.fdp_snapshot.specs.declared.state.Summary.{Summary}
use Rattle.fdp_outline.specs.Outline.{IsOutlineOf, said_by}

pub left : (a b : Bool) → (a && b) ≡ true → a ≡ true
left true b e = refl
left false b e = e

pub right : (a b : Bool) → (a && b) ≡ true → b ≡ true
right true b e = e
right false b e = cc

pub not-true : (a : Bool) → not a ≡ true → a ≡ false
not-true true e = cc
not-true false e = refl

pub holds : (a : Bool) → a ≡ true → IsTrue a
holds a e = e

module _ (c : DriveConfig) (r : Reading) where
  pub write_pages : (nsid slba pid : ℕ) (invalid : Bool) (pages : List ℕ) → names_what_is c r (changes.Write nsid slba pid invalid pages) ≡ true → are_data_pages c pages ≡ true
  unfolding names_what_is
  write_pages nsid slba pid invalid pages h = right (lies_within r nsid slba (length pages)) (are_data_pages c pages) h

  pub create_id : (nsid size : ℕ) (given : Bool) (handles : List ℕ) → names_what_is c r (changes.Create nsid size given handles) ≡ true → IsTrue (is_namespace_id nsid)
  unfolding names_what_is
  create_id nsid size given handles h = holds (is_namespace_id nsid) (left (is_namespace_id nsid) (not (has_namespace r nsid)) (left (is_free_id r nsid) (may_have c r size handles) h))

  pub create_free : (nsid size : ℕ) (given : Bool) (handles : List ℕ) → names_what_is c r (changes.Create nsid size given handles) ≡ true → has_namespace r nsid ≡ false
  unfolding names_what_is
  create_free nsid size given handles h = not-true (has_namespace r nsid) (right (is_namespace_id nsid) (not (has_namespace r nsid)) (left (is_free_id r nsid) (may_have c r size handles) h))

  sized : (nsid size : ℕ) (given : Bool) (handles : List ℕ) → names_what_is c r (changes.Create nsid size given handles) ≡ true → (nat_lt 0 size && is_handle_list (handles_in c r) handles) ≡ true
  unfolding names_what_is
  sized nsid size given handles h = left (nat_lt 0 size && is_handle_list (handles_in c r) handles) (has_room c r size) (right (is_free_id r nsid) (may_have c r size handles) h)

  pub create_size : (nsid size : ℕ) (given : Bool) (handles : List ℕ) → names_what_is c r (changes.Create nsid size given handles) ≡ true → 0 < size
  create_size nsid size given handles h = ltb-true 0 size (left (nat_lt 0 size) (is_handle_list (handles_in c r) handles) (sized nsid size given handles h))

  pub create_few : (nsid size : ℕ) (given : Bool) (handles : List ℕ) → names_what_is c r (changes.Create nsid size given handles) ≡ true → length handles ≤ 16
  create_few nsid size given handles h =
      let filled = nat_lt 0 (length handles) in
      let few = nat_le (length handles) 16 in
      let known = list_all (λ ruh. nat_lt ruh (handles_in c r)) handles in
      let list = right (nat_lt 0 size) (is_handle_list (handles_in c r) handles) (sized nsid size given handles h) in
      leb-true (length handles) 16 (right filled few (left (filled && few) known (left (filled && few && known) (not (has_repeat handles)) list)))

  pub delete_there : (nsid : ℕ) → names_what_is c r (changes.Delete nsid) ≡ true → has_namespace r nsid ≡ true
  unfolding names_what_is
  delete_there nsid h = h

  pub events_known : (ruh mask : ℕ) (on : Bool) → names_what_is c r (changes.SetEvents ruh on mask) ≡ true → (ruh < handles_in c r) × (mask < 64)
  unfolding names_what_is
  events_known ruh mask on h =
      (ltb-true ruh (handles_in c r) (left (nat_lt ruh (handles_in c r)) (nat_lt mask 64) h), ltb-true mask 64 (right (nat_lt ruh (handles_in c r)) (nat_lt mask 64) h))

  pub of-unit : (x : UnitPages) → are_of_data_unit c x ≡ true → x.unit < data_units (geometry_of c)
  of-unit x h = ltb-true x.unit (data_units (geometry_of c)) (left (nat_lt x.unit (data_units (geometry_of c))) _ h)

  pub moved_victim : (victim first : UnitPages) (second : Option UnitPages) (handles : List ℕ) → names_what_is c r (changes.Moved victim first second handles) ≡ true
      → victim.unit < data_units (geometry_of c)
  unfolding names_what_is
  moved_victim victim first second handles h =
      of-unit victim (left (are_of_data_unit c victim) (are_of_data_unit c first) (left (are_of_data_unit c victim && are_of_data_unit c first) (option_map_or (are_of_data_unit c) second true) h))

  -- there are data pages
  pub some_pages : IsInRange c → 0 < data_pages (geometry_of c)
  some_pages ranges =
      let groups : 0 < c.groups = omega (arith, ranges.groups.0) in
      let units : 0 < c.units = omega (arith, ranges.units.0) in
      let pages : 0 < c.unit_pages = omega (arith, ranges.unit_pages.0) in
      mul-lt 0 0 (c.groups * c.units) c.unit_pages (mul-lt 0 0 c.groups c.units groups units) pages

  pub first_page_good : (pages : List ℕ) → 0 < data_pages (geometry_of c) → are_data_pages c pages ≡ true → slice_index pages 0 < data_pages (geometry_of c)
  first_page_good [] some h = some
  first_page_good (page ∷ pages) some h = ltb-true page (data_pages (geometry_of c)) (left (nat_lt page (data_pages (geometry_of c))) _ h)

-- ---- by what an outline says

-- what a change names does not hang on totals and pages
names-beside : (c : DriveConfig) (r : Reading) (totals : Totals) (pages : ℕ → ℕ → Option ℕ) (change : Change) → names_what_is c (record r { totals = totals; pages = pages }) change ≡ names_what_is c r change
unfolding names_what_is
names-beside c r totals pages (changes.Write nsid slba pid invalid numbers) = refl
names-beside c r totals pages (changes.Clear nsid ranges) = refl
names-beside c r totals pages (changes.Update nsid closed pids) = refl
names-beside c r totals pages (changes.Create nsid size given handles) = refl
names-beside c r totals pages (changes.Delete nsid) = refl
names-beside c r totals pages (changes.SetFdp enabled index generation) = refl
names-beside c r totals pages (changes.SetEvents ruh on mask) = refl
names-beside c r totals pages (changes.Moved victim first second handles) = refl
names-beside c r totals pages (changes.Shut rg ruh) = refl

-- a change names what an outline says exactly where it names what is said
pub names-said : (c : DriveConfig) (r : Reading) (s : Summary) (change : Change) → IsOutlineOf c r s → names_what_is c (said_by s) change ≡ names_what_is c r change
names-said c r s change h = sym (names-beside c (said_by s) r.totals r.pages change) ∙ ap (λ (x : Reading). names_what_is c x change) h.says

-- a namespace that is there has an identifier that it may have
pub there_good : (s : Summary) (nsid : ℕ) → has_namespace (said_by s) nsid ≡ true → IsTrue (is_namespace_id nsid)
unfolding reading_of_state
there_good s nsid there = of_id (is_namespace_id nsid) refl there where
  of_id : (b : Bool) → is_namespace_id nsid ≡ b
      → is_some (option_map namespace_of (if b then option_and_then (λ (x : Option Space). x) (slice_get s.spaces (nsid - 1)) else None)) ≡ true → is_namespace_id nsid ≡ true
  of_id true is h = is
  of_id false is h = cc

-- the place of a namespace that is not there is empty
pub absent_place : (s : Summary) (nsid : ℕ) → has_namespace (said_by s) nsid ≡ false → in_place s.spaces nsid ≡ None
unfolding reading_of_state
absent_place s nsid absent = of_place (in_place s.spaces nsid) absent where
  of_place : (o : Option Space) → is_some (option_map namespace_of o) ≡ false → o ≡ None
  of_place None e = refl
  of_place (Some x) e = cc

-- a handle whose kinds are set is one in force, and there are at most sixteen
pub kinds_there : (c : DriveConfig) (s : Summary) (ruh mask : ℕ) (on : Bool) → names_what_is c (said_by s) (changes.SetEvents ruh on mask) ≡ true → ruh < handle_count c s.enabled s.index
unfolding reading_of_state
kinds_there c s ruh mask on h = (events_known c (said_by s) ruh mask on h).0

pub kinds_few : (c : DriveConfig) (s : Summary) (ruh mask : ℕ) (on : Bool) → IsInRange c → s.index < length c.fdp → names_what_is c (said_by s) (changes.SetEvents ruh on mask) ≡ true → ruh < 16
kinds_few c s ruh mask on ranges index h =
    let few : IsWithin 1 16 (handle_count c s.enabled s.index) = elim s.enabled as (λ b. IsWithin 1 16 (handle_count c b s.index)) [ true ↦ ranges.handles s.index [] index | false ↦ (omega arith, omega arith) ] in
    omega (arith, kinds_there c s ruh mask on h, few.1)
