-- An entry that may follow has its rows among the sites and the copies.
use Rattle.std.proofs.Common.{◌≡◌, ℕ, ◌*◌, ◌<◌, ◌^◌, true, length, List, Option, Some, None, refl, arith, subst, sym}
use Rattle.std.specs.Prelude.{slice_get, ◌/◌}
use Rattle.std.specs.Option.{IfSome, IsSomeAnd}
use Rattle.std.proofs.Math.Nat.{div-lt_iff_lt-mul}
use Rattle.std.proofs.lemmas.Option.{slice_get_within}
use Rattle.fdp_base.specs.declared.entry.Entry.{Entry}
use Rattle.fdp_base.specs.declared.entry.Entry.TheVariants as entries
use Rattle.fdp_rules.specs.Step.{Follows, IsDataUnit}
use Rattle.fdp_tables.specs.declared.state.Kept.{Kept}
use Rattle.fdp_plain_trail.specs.Counted.{HasCountRoom}
use Rattle.fdp_plain_trail.specs.Places.{HasCopyRoom, HasGroup, HasGroupOf, HasPage, HasPlaces}
use Rattle.fdp_tables.specs.Sound.{IsSound}
use Rattle.fdp_tables.specs.State.{point_kept}
use Rattle.fdp_plain.specs.Reserved.{HasCopyGroup, HasCopySpare}
use Rattle.fdp_base.specs.CommandKinds.{blocks_written}

-- the tables k with what a change left in a
abbrev pub with_change : Kept → Kept → Kept
with_change k a = record k {
  enabled = a.enabled;
  index = a.index;
  generation = a.generation;
  reports = a.reports;
  spaces = a.spaces;
  references = a.references;
  going = a.going;
  lost = a.lost;
  worn = a.worn;
  media = a.media;
}

-- a unit of the drive lies in one of its groups
pub group_below : (groups units unit : ℕ) → 0 < units → unit < groups * units → unit / units < groups
group_below groups units unit some below = (div-lt_iff_lt-mul some).1 below

pub group_there : (k : Kept) → IsSound k → (unit : ℕ) → IsDataUnit k.config unit → HasGroupOf k unit
group_there k h unit below =
    let some : 0 < k.config.units = omega (arith, h.config.ranges.units.0) in
    record {
      units = some;
      group = omega (arith, group_below k.config.groups k.config.units unit some below, h.copies);
    }

-- the group of a page that is copied
pub copy_group_there : (k : Kept) (e : Entry) → IsSound k → Follows true k.config (point_kept k) e → HasCopyGroup k e
unfolding Follows
copy_group_there k (entries.Host host) h f = tt
copy_group_there k (entries.Started s) h f = tt
copy_group_there k (entries.Placed p) h f = tt
copy_group_there k (entries.Copied c) h f = group_there k h c.from.unit f.from.0
copy_group_there k (entries.Moved m) h f = tt
copy_group_there k (entries.Erased e) h f = tt
copy_group_there k (entries.Retired r) h f = tt
copy_group_there k (entries.Aside a) h f = tt
copy_group_there k (entries.Shut s) h f = tt
copy_group_there k (entries.Worn w) h f = tt
copy_group_there k entries.Reopened h f = tt

-- a page of a row that is there
page_within : {V : Type 0} (count : V → ℕ) (rows : Option V) (index n : ℕ) → IsSomeAnd rows (λ v. count v ≡ n) → index < n → IfSome rows (λ v. index < count v)
page_within count None index n there below = absurd there
page_within count (Some v) index n there below = omega (arith, there, below)

row_within : {V : Type 0} (P : V → Type 0) (xs : List V) (i : ℕ) → IsSomeAnd (slice_get xs i) P → i < length xs
row_within {V} P xs i there =
    let Q : Option V → Type 0 = λ o. slice_get xs i ≡ o → IsSomeAnd o P → i < length xs in
    (elim (slice_get xs i) as Q [ None ↦ λ _ no. absurd no | Some v ↦ λ e _. slice_get_within xs i v e ]) refl there

-- the rows that an entry changes among sites and copies, once there is spare room for a copy
pub places_there : (k : Kept) (e : Entry) → IsSound k → Follows true k.config (point_kept k) e → HasCopySpare k e → HasPlaces k e
unfolding Follows
places_there k (entries.Host host) h f spare = tt
places_there k (entries.Started s) h f spare = tt
places_there k (entries.Placed p) h f spare =
    let pages = subst (λ (t : ℕ). IsSomeAnd (slice_get k.sites.rows t) (λ row. length row ≡ blocks_written f.going.command)) f.same (h.writes f.queue f.going f.going_is).pages in
    record {
      ticket_is = row_within _ k.sites.rows p.ticket pages;
      index_is = page_within _ _ p.index _ pages f.asked;
    }
places_there k (entries.Copied c) h f spare = spare
places_there k (entries.Moved m) h f spare = rw h.copies f.group
places_there k (entries.Erased e) h f spare = group_there k h e.unit f.data_unit
places_there k (entries.Retired r) h f spare = group_there k h r.unit f.data_unit
places_there k (entries.Aside a) h f spare = group_there k h a.unit f.data_unit
places_there k (entries.Shut s) h f spare = tt
places_there k (entries.Worn w) h f spare = rw h.copies f
places_there k entries.Reopened h f spare = tt

-- the rows of sites and copies are those of before a change
pub same_places : (k m : Kept) (e : Entry) → m ≡ with_change k m → HasPlaces k e → HasPlaces m e
same_places k m (entries.Host host) rest h = tt
same_places k m (entries.Started s) rest h = tt
same_places k m (entries.Placed p) rest h = subst (λ (x : Kept). HasPage x p.ticket p.index) (sym rest) (record { ticket_is = h.ticket_is; index_is = h.index_is })
same_places k m (entries.Copied c) rest h = subst (λ (x : Kept). HasCopyRoom x c.from.unit) (sym rest) (record { group = record { units = h.group.units; group = h.group.group }; room = h.room })
same_places k m (entries.Moved moved) rest h = subst (λ (x : Kept). HasGroup x moved.rg) (sym rest) h
same_places k m (entries.Erased e) rest h = subst (λ (x : Kept). HasGroupOf x e.unit) (sym rest) (record { units = h.units; group = h.group })
same_places k m (entries.Retired r) rest h = subst (λ (x : Kept). HasGroupOf x r.unit) (sym rest) (record { units = h.units; group = h.group })
same_places k m (entries.Aside a) rest h = subst (λ (x : Kept). HasGroupOf x a.unit) (sym rest) (record { units = h.units; group = h.group })
same_places k m (entries.Shut s) rest h = tt
same_places k m (entries.Worn w) rest h = subst (λ (x : Kept). HasGroup x w.rg) (sym rest) h
same_places k m entries.Reopened rest h = tt

-- the sums of a history of fewer than 2 ^ 64 entries have room for an entry more
pub counts_there : (k a b : Kept) → IsSound k → a ≡ with_change k a → b ≡ record a { sites = b.sites; found = b.found; copies = b.copies } → HasCountRoom b
counts_there k a b h changed traced =
    let few : length k.entries.items < 2 ^ 64 = omega (arith, k.entries.ok, k.entries.small) in
    let first : HasCountRoom k = record {
      host_blocks = omega (arith, h.host_blocks, few);
      media_blocks = omega (arith, h.media_blocks, few);
      erases = omega (arith, h.erases, few);
    } in
    let second : HasCountRoom a = subst HasCountRoom (sym changed) (record { host_blocks = first.host_blocks; media_blocks = first.media_blocks; erases = first.erases }) in
    subst HasCountRoom (sym traced) (record { host_blocks = second.host_blocks; media_blocks = second.media_blocks; erases = second.erases })
