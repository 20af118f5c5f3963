-- The live pages of a group are at most its stored blocks and the pages of writes that are going.
use Rattle.std.proofs.Common.{◌≡◌, ℕ, ◌+◌, ◌*◌, ◌/◌, ◌<◌, ◌≤◌, Bool, true, false, cond, ◌&&◌, Option, Some, None, refl, sym, ◌∙◌, ap, arith}
use Rattle.std.specs.Prelude.{is_some}
use Rattle.std.specs.Option.{option_map_or}
use Rattle.std.proofs.lemmas.Bool.{eq-eqb, true≢false}
use Rattle.fdp_base.specs.declared.config.DriveConfig.{DriveConfig}
use Rattle.fdp_base.specs.declared.entry.Spot.{Spot}
use Rattle.fdp_base.specs.Numbers.{count_below}
use Rattle.fdp_base.proofs.Sums.{counting, sum_from, sum_from-bound, sum_from-same}
use Rattle.fdp_rules.specs.PlainState.{Block, Namespace}
use Rattle.fdp_rules.specs.Point.{Point}
use Rattle.fdp_rules.specs.Room.{lies_in, namespace_ids, size_of, stored}
use Rattle.fdp_rules.specs.Sites.{group_of}
use Rattle.fdp_history.specs.OrderlyState.{IsOrderlyState}
use Rattle.fdp_history.specs.Standing.{IsStanding}
use Rattle.fdp_pointers.specs.Contents.{PageContent}
use Rattle.fdp_pointers.specs.Facts.{IsTableOf, Page}
use Rattle.fdp_pointers.specs.Pointers.{Behind, Pointer, Pointer.of_block, Pointer.of_flight}
use Rattle.fdp_pointers.proofs.Copies.{same-spot}
use Rattle.fdp_pointers.proofs.Tables.{from-block, from-flight, site-at}
use Rattle.fdp_owners.specs.declared.owner.Owner.{Owner}
use Rattle.fdp_owners.specs.Owned.{AreOwners, page_of}
use Rattle.fdp_owners.specs.OwnerTable.{OwnerTable, live_in, owner_at, pointer_of}
use Rattle.fdp_owners.proofs.Rows.{as_number}
use Rattle.fdp_owners.proofs.Tables.{is_spot-same}
use Rattle.fdp_units.specs.UnitTable.{IsGroup, IsUnit, UnitTable, live_at, unit_at}
use Rattle.fdp_units.proofs.Tables.{group-of-place, unit-there}
use Rattle.fdp_trails.proofs.Hits.{hit, hits-one, leads, page_of_group, sum_from-most, sum_from-term, total, total-both, total-most, total-swapped, total-zero}

-- what leads to a page
leads-is : (o : Option Page) (spot : Spot) → leads o spot ≡ true → (y : Page) × (o ≡ Some y) × (y.spot ≡ spot)
leads-is None spot e = absurd cc
leads-is (Some y) spot e = (y, refl, same-spot y.spot spot e)

module _ (c : DriveConfig) (p : Point) (pages : ℕ → ℕ) (at : Behind Page) (orderly : IsOrderlyState c p.state) (standing : IsStanding c p) (table : IsTableOf c p pages at) where
  -- the block that a pointer belongs to is there, in the group of its page
  block-in : (nsid lba : ℕ) (y : Page) → at (of_block nsid lba) ≡ Some y → (b : Block) × (p.state.blocks nsid lba ≡ Some b) × (group_of c y.spot.unit ≡ b.rg)
  block-in nsid lba y e =
      let has = site-at c p pages at table (of_block nsid lba) y e in
      let was = from-block (p.state.blocks nsid lba) has.0 has.1 in
      let stands = standing.blocks nsid lba was.0 was.1 in
      let both : Some stands.spot ≡ Some y.spot = sym stands.site ∙ ap (λ (x : PageContent). p.trail.site x.name) was.2 ∙ has.2 in
      let same : stands.spot ≡ y.spot = cc in
      (was.0, was.1, ap (λ (s : Spot). group_of c s.unit) (sym same) ∙ stands.group)

  no-space : (nsid lba : ℕ) → p.state.namespaces nsid ≡ None → lba < size_of p.state nsid → ⊥
  no-space nsid lba none low = let size : size_of p.state nsid ≡ 0 = ap (λ (o : Option Namespace). option_map_or (λ (x : Namespace). x.size) o 0) none in omega (arith, size, low)

  -- it is one of a namespace
  block-within : (nsid lba : ℕ) (b : Block) → p.state.blocks nsid lba ≡ Some b → (1 ≤ nsid) × (nsid ≤ 16) × (lba < size_of p.state nsid)
  block-within nsid lba b e =
      let low : lba < size_of p.state nsid = (orderly.blocks nsid lba b e).address in
      (elim (p.state.namespaces nsid) as (λ o. p.state.namespaces nsid ≡ o → (1 ≤ nsid) × (nsid ≤ 16) × (lba < size_of p.state nsid)) [
        | None ↦ λ none. absurd (no-space nsid lba none low)
        | Some n ↦ λ is. let id = (orderly.namespaces nsid n is).identifier in (id.0, id.1, low)
      ]) refl

  -- a page of a write that is going is one of at most so many
  flight-within : (queue index : ℕ) (y : Page) → at (of_flight queue index) ≡ Some y → (1 ≤ queue) × (queue ≤ c.queues) × (index < c.blocks_per_command)
  flight-within queue index y e =
      let has = site-at c p pages at table (of_flight queue index) y e in
      let was = from-flight c p.state index (p.state.going queue) has.0 has.1 in
      let write = orderly.writes queue was.0 was.1 in
      (write.queue_is.0, write.queue_is.1, omega (arith, was.2, write.placed, write.count.1))

  -- how many pointers of blocks, and of writes that are going, lead to a page
  abbrev by-blocks : Spot → ℕ
  by-blocks spot = sum_from (λ n. sum_from (λ l. hit (at (of_block n l)) spot) 0 (size_of p.state n)) 1 16

  abbrev by-flights : Spot → ℕ
  by-flights spot = sum_from (λ q. sum_from (λ j. hit (at (of_flight q j)) spot) 0 c.blocks_per_command) 1 c.queues

  hit-own : (q : Pointer) (y : Page) → at q ≡ Some y → hit (at q) y.spot ≡ 1
  hit-own q y e = ap (λ (o : Option Page). hit o y.spot) e ∙ ap (λ (b : Bool). cond b 1 0) (is_spot-same y.spot)

  -- a pointer that leads to a page is among those that are counted
  pointer-counts : (q : Pointer) (y : Page) → at q ≡ Some y → 1 ≤ by-blocks y.spot + by-flights y.spot
  pointer-counts (of_block nsid lba) y e =
      let block = block-in nsid lba y e in
      let within = block-within nsid lba block.0 block.1 in
      let inner : hit (at (of_block nsid lba)) y.spot ≤ sum_from (λ l. hit (at (of_block nsid l)) y.spot) 0 (size_of p.state nsid) = sum_from-term (λ l. hit (at (of_block nsid l)) y.spot) 0 (size_of p.state nsid) lba (omega arith) (omega (arith, within.2)) in
      let outer : sum_from (λ l. hit (at (of_block nsid l)) y.spot) 0 (size_of p.state nsid) ≤ by-blocks y.spot = sum_from-term (λ n. sum_from (λ l. hit (at (of_block n l)) y.spot) 0 (size_of p.state n)) 1 16 nsid within.0 (omega (arith, within.1)) in
      omega (arith, hit-own (of_block nsid lba) y e, inner, outer)
  pointer-counts (of_flight queue index) y e =
      let within = flight-within queue index y e in
      let inner : hit (at (of_flight queue index)) y.spot ≤ sum_from (λ j. hit (at (of_flight queue j)) y.spot) 0 c.blocks_per_command = sum_from-term (λ j. hit (at (of_flight queue j)) y.spot) 0 c.blocks_per_command index (omega arith) (omega (arith, within.2)) in
      let outer : sum_from (λ j. hit (at (of_flight queue j)) y.spot) 0 c.blocks_per_command ≤ by-flights y.spot = sum_from-term (λ q. sum_from (λ j. hit (at (of_flight q j)) y.spot) 0 c.blocks_per_command) 1 c.queues queue within.0 (omega (arith, within.1)) in
      omega (arith, hit-own (of_flight queue index) y e, inner, outer)

  -- so each page that has an owner is counted
  owner-counts : (owners : Spot → Option Owner) → AreOwners owners at → (spot : Spot) → cond (is_some (owners spot)) 1 0 ≤ by-blocks spot + by-flights spot
  owner-counts owners h spot = cases (owners spot) refl where
    cases : (o : Option Owner) → owners spot ≡ o → cond (is_some o) 1 0 ≤ by-blocks spot + by-flights spot
    cases None e = omega arith
    cases (Some w) e = pointer-counts (pointer_of w) (page_of spot w) (h.led spot w e)

  -- ---- by pointers

  module _ (t : UnitTable) (size rg : ℕ) (same : c.units ≡ t.group_units) where
    in-group : (i : ℕ) → i < t.group_units → group_of c (rg * t.group_units + i) ≡ rg
    in-group i low = ap (λ (n : ℕ). (rg * t.group_units + i) / n) same ∙ group-of-place t rg i low

    -- the pages of the group that a pointer leads to
    abbrev hits : Pointer → ℕ
    hits q = total t.group_units size (λ i k. hit (at q) (page_of_group t.group_units rg i k))

    -- the pointer of a block leads to at most one, and to none where the block lies in another group
    block-hits : (nsid lba : ℕ) → hits (of_block nsid lba) ≤ cond (lies_in rg (p.state.blocks nsid lba) && true) 1 0
    block-hits nsid lba = cases (lies_in rg (p.state.blocks nsid lba)) refl where
      cases : (b : Bool) → lies_in rg (p.state.blocks nsid lba) ≡ b → hits (of_block nsid lba) ≤ cond (b && true) 1 0
      cases true e = hits-one t.group_units size rg (at (of_block nsid lba))
      cases false e = omega (arith, total-zero t.group_units size (λ i k. hit (at (of_block nsid lba)) (page_of_group t.group_units rg i k)) (λ i k low below. none i k low)) where
        none : (i k : ℕ) → i < t.group_units → hit (at (of_block nsid lba)) (page_of_group t.group_units rg i k) ≡ 0
        none i k low = led (leads (at (of_block nsid lba)) (page_of_group t.group_units rg i k)) refl where
          led : (b : Bool) → leads (at (of_block nsid lba)) (page_of_group t.group_units rg i k) ≡ b → as_number b ≡ 0
          led false is = refl
          led true is =
              let y = leads-is (at (of_block nsid lba)) (page_of_group t.group_units rg i k) is in
              let block = block-in nsid lba y.0 y.1 in
              let group : block.0.rg ≡ rg = sym block.2 ∙ ap (λ (s : Spot). group_of c s.unit) y.2 ∙ in-group i low in
              let lies : lies_in rg (p.state.blocks nsid lba) ≡ true = ap (lies_in rg) block.1 ∙ eq-eqb block.0.rg rg group in
              absurd (true≢false (sym lies ∙ e))

    blocks-most : total t.group_units size (λ i k. by-blocks (page_of_group t.group_units rg i k)) ≤ stored p.state rg
    unfolding namespace_ids
    blocks-most =
        let out : total t.group_units size (λ i k. by-blocks (page_of_group t.group_units rg i k)) ≡ sum_from (λ n. total t.group_units size (λ i k. sum_from (λ l. hit (at (of_block n l)) (page_of_group t.group_units rg i k)) 0 (size_of p.state n))) 1 16 =
        total-swapped t.group_units size (λ n i k. sum_from (λ l. hit (at (of_block n l)) (page_of_group t.group_units rg i k)) 0 (size_of p.state n)) 1 16 in
        let most : sum_from (λ n. total t.group_units size (λ i k. sum_from (λ l. hit (at (of_block n l)) (page_of_group t.group_units rg i k)) 0 (size_of p.state n))) 1 16 ≤ sum_from (λ n. count_below (size_of p.state n) (λ l. lies_in rg (p.state.blocks n l) && true)) 1 16 =
        sum_from-most (λ n. total t.group_units size (λ i k. sum_from (λ l. hit (at (of_block n l)) (page_of_group t.group_units rg i k)) 0 (size_of p.state n))) (λ n. count_below (size_of p.state n) (λ l. lies_in rg (p.state.blocks n l) && true)) 1 16 (λ n low high. space n) in
        omega (arith, out, most) where
          space : (n : ℕ) → total t.group_units size (λ i k. sum_from (λ l. hit (at (of_block n l)) (page_of_group t.group_units rg i k)) 0 (size_of p.state n)) ≤ count_below (size_of p.state n) (λ l. lies_in rg (p.state.blocks n l) && true)
          space n =
              let out : total t.group_units size (λ i k. sum_from (λ l. hit (at (of_block n l)) (page_of_group t.group_units rg i k)) 0 (size_of p.state n)) ≡ sum_from (λ l. hits (of_block n l)) 0 (size_of p.state n) =
              total-swapped t.group_units size (λ l i k. hit (at (of_block n l)) (page_of_group t.group_units rg i k)) 0 (size_of p.state n) in
              let most : sum_from (λ l. hits (of_block n l)) 0 (size_of p.state n) ≤ sum_from (counting (λ l. lies_in rg (p.state.blocks n l) && true)) 0 (size_of p.state n) =
              sum_from-most (λ l. hits (of_block n l)) (counting (λ l. lies_in rg (p.state.blocks n l) && true)) 0 (size_of p.state n) (λ l low high. block-hits n l) in
              omega (arith, out, most)

    flights-most : total t.group_units size (λ i k. by-flights (page_of_group t.group_units rg i k)) ≤ c.queues * c.blocks_per_command
    flights-most =
        let out : total t.group_units size (λ i k. by-flights (page_of_group t.group_units rg i k)) ≡ sum_from (λ q. total t.group_units size (λ i k. sum_from (λ j. hit (at (of_flight q j)) (page_of_group t.group_units rg i k)) 0 c.blocks_per_command)) 1 c.queues =
        total-swapped t.group_units size (λ q i k. sum_from (λ j. hit (at (of_flight q j)) (page_of_group t.group_units rg i k)) 0 c.blocks_per_command) 1 c.queues in
        let most : sum_from (λ q. total t.group_units size (λ i k. sum_from (λ j. hit (at (of_flight q j)) (page_of_group t.group_units rg i k)) 0 c.blocks_per_command)) 1 c.queues ≤ c.queues * c.blocks_per_command =
        sum_from-bound (λ q. total t.group_units size (λ i k. sum_from (λ j. hit (at (of_flight q j)) (page_of_group t.group_units rg i k)) 0 c.blocks_per_command)) c.blocks_per_command 1 c.queues queue in
        omega (arith, out, most) where
          queue : (q : ℕ) → total t.group_units size (λ i k. sum_from (λ j. hit (at (of_flight q j)) (page_of_group t.group_units rg i k)) 0 c.blocks_per_command) ≤ c.blocks_per_command
          queue q =
              let out : total t.group_units size (λ i k. sum_from (λ j. hit (at (of_flight q j)) (page_of_group t.group_units rg i k)) 0 c.blocks_per_command) ≡ sum_from (λ j. hits (of_flight q j)) 0 c.blocks_per_command =
              total-swapped t.group_units size (λ j i k. hit (at (of_flight q j)) (page_of_group t.group_units rg i k)) 0 c.blocks_per_command in
              let most : sum_from (λ j. hits (of_flight q j)) 0 c.blocks_per_command ≤ c.blocks_per_command * 1 = sum_from-bound (λ j. hits (of_flight q j)) 1 0 c.blocks_per_command (λ j. hits-one t.group_units size rg (at (of_flight q j))) in
              omega (arith, out, most)

    owned-most : (owners : Spot → Option Owner) → AreOwners owners at → total t.group_units size (λ i k. cond (is_some (owners (page_of_group t.group_units rg i k))) 1 0) ≤ stored p.state rg + c.queues * c.blocks_per_command
    owned-most owners h =
        let each : total t.group_units size (λ i k. cond (is_some (owners (page_of_group t.group_units rg i k))) 1 0) ≤ total t.group_units size (λ i k. by-blocks (page_of_group t.group_units rg i k) + by-flights (page_of_group t.group_units rg i k)) =
        total-most t.group_units size (λ i k. cond (is_some (owners (page_of_group t.group_units rg i k))) 1 0) (λ i k. by-blocks (page_of_group t.group_units rg i k) + by-flights (page_of_group t.group_units rg i k)) (λ i k low below. owner-counts owners h (page_of_group t.group_units rg i k)) in
        let both : total t.group_units size (λ i k. by-blocks (page_of_group t.group_units rg i k) + by-flights (page_of_group t.group_units rg i k)) ≡ total t.group_units size (λ i k. by-blocks (page_of_group t.group_units rg i k)) + total t.group_units size (λ i k. by-flights (page_of_group t.group_units rg i k)) =
        total-both t.group_units size (λ i k. by-blocks (page_of_group t.group_units rg i k)) (λ i k. by-flights (page_of_group t.group_units rg i k)) in
        omega (arith, each, both, blocks-most, flights-most)

pub live-most : (c : DriveConfig) (p : Point) (pages : ℕ → ℕ) (at : Behind Page) (t : UnitTable) (o : OwnerTable) (rg : ℕ) → IsOrderlyState c p.state → IsStanding c p → IsTableOf c p pages at → AreOwners (owner_at o) at → c.units ≡ t.group_units → IsGroup t rg → ((unit : ℕ) → IsUnit t unit → (unit_at t unit).live ≡ live_in o unit)
    → live_at t rg ≤ stored p.state rg + c.queues * c.blocks_per_command
live-most c p pages at t o rg orderly standing table h same group counted =
    let live : live_at t rg ≡ total t.group_units o.unit_pages (λ i k. cond (is_some (owner_at o (page_of_group t.group_units rg i k))) 1 0) =
    sum_from-same (λ i. (unit_at t (rg * t.group_units + i)).live) (λ i. sum_from (λ k. cond (is_some (owner_at o (page_of_group t.group_units rg i k))) 1 0) 0 o.unit_pages) 0 t.group_units
    (λ i low high. counted (rg * t.group_units + i) (unit-there t rg i group (omega (arith, high)))) in
    omega (arith, live, owned-most c p pages at orderly standing table t o.unit_pages rg same (owner_at o) h)
