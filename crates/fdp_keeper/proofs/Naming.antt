-- A record can name the copies of blocks of a pass.
use Rattle.std.proofs.lemmas.Bool.Decides.{eqb_tells}
use Rattle.std.proofs.Common.{◌≡◌, ◌≢◌, ⊎_elim, ℕ, ◌+◌, ◌*◌, ◌/◌, ◌<◌, ◌≤◌, Bool, true, false, List, [], ◌∷◌, ◌++◌, length, map, filter, Option, Some, None, refl, ap, sym, ◌∙◌, subst, arith, get_or}
use Rattle.std.specs.Prelude.{All, Contains, IfSome, ◌==◌, is_some}
use Rattle.std.specs.Option.{option_map_or}
use Rattle.std.proofs.Math.Nat.{mul-le-mul_right}
use Rattle.std.proofs.lemmas.List.Elements.{All-cons, All-contains, All-filter, All-head, All-map, All-nil, All-tail, All-weaker, filter-append}
use Rattle.std.proofs.lemmas.Option.{slice_get-get_or}
use Rattle.fdp_base.specs.declared.config.DriveConfig.{DriveConfig}
use Rattle.fdp_base.specs.declared.entry.Copied.{Copied}
use Rattle.fdp_base.specs.declared.entry.Entry.{Entry}
use Rattle.fdp_base.specs.declared.entry.Entry.TheVariants as entries
use Rattle.fdp_base.specs.declared.entry.Spot.{Spot}
use Rattle.fdp_base.specs.Config.{IsValidConfig}
use Rattle.fdp_book.specs.Changes.{IsChangeOfEntry, blocks_of_change}
use Rattle.fdp_book.proofs.Making.Entries.{totals-entry}
use Rattle.fdp_history.specs.Orderly.{IsOrderly}
use Rattle.fdp_history.specs.Standing.{IsStanding}
use Rattle.fdp_image.specs.Bits.{pages_of_set}
use Rattle.fdp_keeper.specs.Moves.{AreNewPages, AreOldPages, CanBeNamed, IsMoveOf, IsTargetOf, moved_by_owner, moved_of}
use Rattle.fdp_keeper.proofs.Moved.{ascending-old, filter-new, filter-old, handles-named, names-listed}
use Rattle.fdp_durability.specs.fdp_locations.Located.{AreLed, next_in}
use Rattle.fdp_durability.specs.fdp_locations.Written.{Written}
use Rattle.fdp_outline.specs.declared.moved_block.MovedBlock.{MovedBlock}
use Rattle.fdp_outline.specs.Events.{ListsMoved, names_of_handle}
use Rattle.fdp_owners.specs.declared.owner.Owner.{Owner}
use Rattle.fdp_owners.specs.OwnerTable.{owner_at}
use Rattle.fdp_durability.specs.fdp_pages.Joined.{AreJoined}
use Rattle.fdp_durability.specs.fdp_pages.PageTables.{PageTables, copies_at, passes_at}
use Rattle.fdp_durability.proofs.fdp_pages.Places.{place-contains}
use Rattle.fdp_passes.specs.Due.{copies_in}
use Rattle.fdp_passes.specs.GroupPasses.{Pass}
use Rattle.fdp_pointers.specs.Facts.{Page}
use Rattle.fdp_pointers.specs.Pointers.{Behind}
use Rattle.fdp_durability.specs.fdp_readings.Drawn.{drawn}
use Rattle.fdp_durability.specs.fdp_readings.Changes.{ArePagesOfUnit, FitsDrawn, MoveBlocks, NamesCopies, Saves, copies_of_blocks, known_handle}
use Rattle.fdp_durability.proofs.fdp_readings.Fitting.{move-fits}
use Rattle.fdp_durability.proofs.fdp_readings.Moving.{drawn-moved, lists}
use Rattle.fdp_durability.proofs.fdp_readings.Passing.{copies-inside, copies-placed, pass-moves}
use Rattle.fdp_records.specs.declared.change.Change.{Change}
use Rattle.fdp_records.specs.declared.change.UnitPages.{UnitPages}
use Rattle.fdp_records.specs.Records.{target_or_none}
use Rattle.fdp_rules.specs.Events.{is_of_handle}
use Rattle.fdp_rules.specs.Point.{Point}
use Rattle.fdp_rules.specs.Sites.{moved_blocks}
use Rattle.fdp_rules.specs.Step.{IsDataUnit, IsPage}
use Rattle.fdp_durability.specs.fdp_trails.Moves.{name_at, names_of}
use Rattle.fdp_durability.proofs.fdp_trails.Listing.{pass-listed}
use Rattle.fdp_units.specs.UnitTable.{Cut, IsGroup, cut_of}

-- no more units than there may be
few-units : (groups units : ℕ) → groups ≤ 16 → units ≤ 131072 → groups * units < 0xffff_ffff
few-units groups units a b =
    let one : groups * units ≤ 16 * units = mul-le-mul_right units a in
    omega (arith, one, b)

pub copies-are : (t : PageTables) (rg : ℕ) (pass : Pass) → (passes_at t rg).pass ≡ Some pass → copies_at t rg ≡ pass.copies
copies-are t rg pass is = ap (λ (o : Option Pass). option_map_or (λ (x : Pass). x.copies) o []) is

-- what holds of each copy of a pass
each-copy : (P : Copied → Type 0) (xs : List Copied) → ((x : Copied) → Contains xs x → P x) → All P xs
each-copy P xs each k d low = each (get_or xs k d) (place-contains xs k (get_or xs k d) (slice_get-get_or xs k d low))

pub can-be-named : (c : DriveConfig) (t : PageTables) (rg : ℕ) (pass : Pass) → IsValidConfig c → cut_of t.units ≡ record { unit_pages = c.unit_pages; group_units = c.units; groups = c.groups } → AreJoined t → IsGroup t.units rg → (passes_at t rg).pass ≡ Some pass
    → length (copies_of_blocks (owner_at t.owners) pass.copies) ≤ 256 → 0 < length (copies_of_blocks (owner_at t.owners) pass.copies) → CanBeNamed (copies_of_blocks (owner_at t.owners) pass.copies)
can-be-named c t rg pass valid cut joined group is few some =
    let h = (joined.groups rg group).copied pass is in
    let test : Copied → Bool = λ x. is_some (name_at (owner_at t.owners) x.from) in
    let pages : t.units.unit_pages ≤ 256 = omega (arith, ap (λ (x : Cut). x.unit_pages) cut, valid.ranges.unit_pages.1) in
    let all : c.groups * c.units < 0xffff_ffff = few-units c.groups c.units valid.ranges.groups.1 valid.ranges.units.1 in
    let f = h.filled in
    record {
      some = some;
      few = few;
      old = All-filter test (λ (x : Copied). x.from.page < 256) pass.copies (each-copy (λ (x : Copied). x.from.page < 256) pass.copies (λ x within. omega (arith, (h.lie x within).from_page, pages)));
      new = All-filter test (λ (x : Copied). x.to.page < 256) pass.copies (each-copy (λ (x : Copied). x.to.page < 256) pass.copies (λ x within. omega (arith, (h.lie x within).used, (h.lie x within).within, pages)));
      units = All-filter test (λ (x : Copied). x.to.unit < 0xffff_ffff) pass.copies (each-copy (λ (x : Copied). x.to.unit < 0xffff_ffff) pass.copies (λ x within.
          let unit : x.to.unit < length t.units.groups * t.units.group_units = (h.lie x within).is_unit in
          let same : length t.units.groups * t.units.group_units ≡ c.groups * c.units = ap (λ (k : Cut). k.groups * k.group_units) cut in
          omega (arith, unit, same, all)));
      runs = record {
        first = filter test f.first;
        last = filter test f.last;
        first_unit = f.first_unit;
        last_unit = f.last_unit;
        split = ap (filter test) f.split ∙ filter-append test f.first f.last;
        first_lie = filter-new test f.first_unit 0 f.first f.first_lie;
        last_lie = filter-new test f.last_unit 0 f.last f.last_lie;
      };
      unit = pass.victim;
      order = filter-old test pass.victim 0 pass.copies (ascending-old pass.victim 0 pass.copies (λ k a at. (h.lie a (place-contains pass.copies k a at)).victim) (λ a at. omega arith) h.ascend);
    }

-- ---- what the change of the move names

known-ruhs : (owners : Spot → Option Owner) (xs : List Copied) → map (λ (x : MovedBlock). x.ruh) (map (moved_of owners) xs) ≡ map (λ (x : Copied). known_handle owners x.from) xs
known-ruhs owners [] = refl
known-ruhs owners (x ∷ xs) = ap (λ (n : ℕ). n ∷ map (λ (y : MovedBlock). y.ruh) (map (moved_of owners) xs)) (one (owners x.from)) ∙ ap (λ (ns : List ℕ). known_handle owners x.from ∷ ns) (known-ruhs owners xs) where
  one : (o : Option Owner) → (moved_by_owner o).ruh ≡ option_map_or (λ (y : Owner). y.spare.ruh) o 0
  one None = refl
  one (Some y) = refl

-- the victim of the pass that is moved
victim-is : (t : PageTables) (rg : ℕ) (pass : Pass) (ruhs : List ℕ) (change : Change) → AreJoined t → IsGroup t.units rg → (passes_at t rg).pass ≡ Some pass
    → (move : IsMoveOf (copies_of_blocks (owner_at t.owners) pass.copies) ruhs change) → move.victim.unit ≡ pass.victim
victim-is t rg pass ruhs change joined group is move =
    let h = (joined.groups rg group).copied pass is in
    move.unit pass.victim (filter-old (λ (x : Copied). is_some (name_at (owner_at t.owners) x.from)) pass.victim 0 pass.copies (ascending-old pass.victim 0 pass.copies (λ k a e. (h.lie a (place-contains pass.copies k a e)).victim) (λ a e. omega arith) h.ascend))

-- the blocks that are moved
pub blocks-moved : (c : DriveConfig) (p : Point) (written : Spot → Option Written) (at : Behind Page) (t : PageTables) (rg : ℕ) (pass : Pass) → IsOrderly c p → AreLed c p written at t → rg < c.groups → (passes_at t rg).pass ≡ Some pass → (pass.copies ≡ [] → ⊥) → moved_blocks p rg ≡ names_of (owner_at t.owners) pass.copies
blocks-moved c p written at t rg pass orderly led low is some =
    let same : copies_in (passes_at t rg) ≡ pass.copies = copies-are t rg pass is in
    pass-listed c p rg (next_in t.units) at (owner_at t.owners) (passes_at t rg) orderly.state led.table led.owned (led.passes rg low) (λ none. some (sym same ∙ none)) ∙ ap (names_of (owner_at t.owners)) same

-- what a pass moves, and what the change names of it
module _ (c : DriveConfig) (p : Point) (written : Spot → Option Written) (at : Behind Page) (t : PageTables) (rg : ℕ) (pass : Pass) (change : Change) (orderly : IsOrderly c p) (standing : IsStanding c p) (led : AreLed c p written at t) (low : rg < c.groups)
    (cut : cut_of t.units ≡ record { unit_pages = c.unit_pages; group_units = c.units; groups = c.groups }) (joined : AreJoined t) (group : IsGroup t.units rg) (is : (passes_at t rg).pass ≡ Some pass) (some : pass.copies ≡ [] → ⊥) where
  abbrev kept : List Copied
  kept = copies_of_blocks (owner_at t.owners) pass.copies

  abbrev ruhs : List ℕ
  ruhs = map (λ (x : MovedBlock). x.ruh) (map (moved_of (owner_at t.owners)) kept)

  moves : MoveBlocks p rg kept
  moves =
      let same : copies_in (passes_at t rg) ≡ pass.copies = copies-are t rg pass is in
      subst (λ (xs : List Copied). MoveBlocks p rg (copies_of_blocks (owner_at t.owners) xs)) same (pass-moves c p rg (next_in t.units) at (owner_at t.owners) (passes_at t rg) orderly led.table led.owned (led.passes rg low) (λ none. some (sym same ∙ none)))

  named : (move : IsMoveOf kept ruhs change) → NamesCopies c p rg kept (λ (x : Copied). known_handle (owner_at t.owners) x.from) move.victim move.first move.second ruhs
  named move = record {
    old = move.old.numbers c;
    new = move.new.numbers c;
    handles_are = known-ruhs (owner_at t.owners) kept;
    group = ap (λ (u : ℕ). u / c.units) (victim-is t rg pass ruhs change joined group is move) ∙ ap (λ (k : Cut). pass.victim / k.group_units) (sym cut) ∙ ((joined.groups rg group).ready.victim pass is).group;
    inside = copies-inside c p written at t pass.copies standing led;
    placed = copies-placed c p written at t pass.copies standing led;
  }

  move-saved : IsMoveOf kept ruhs change → Saves c p change (entries.Moved (record { rg = rg; blocks = moved_blocks p rg }))
  move-saved move =
      subst (λ (x : Change). Saves c p x (entries.Moved (record { rg = rg; blocks = moved_blocks p rg }))) (sym move.change_is)
      (drawn-moved c p rg kept (λ (x : Copied). known_handle (owner_at t.owners) x.from) move.victim move.first move.second ruhs orderly standing moves (named move))

  -- the blocks that are listed beside the change are those that it takes along
  moved-listed : (bs : List MovedBlock) → IsMoveOf kept ruhs change → bs ≡ map (moved_of (owner_at t.owners)) kept → ListsMoved c (drawn c p) change bs
  moved-listed bs move are =
      subst (λ (x : Change). ListsMoved c (drawn c p) x bs) (sym move.change_is)
      (λ ruh.
      ap (λ (ys : List MovedBlock). names_of_handle ys ruh) are
      ∙ handles-named c p written at t standing led ruh pass.copies
      ∙ ap (filter (is_of_handle p.state ruh)) (sym (blocks-moved c p written at t rg pass orderly led low is some))
      ∙ sym (lists c p rg kept (λ (x : Copied). known_handle (owner_at t.owners) x.from) move.victim move.first move.second ruhs orderly standing moves (named move) ruh))

-- ---- the change of the move fits what is drawn

all-left : (P : ℕ → Type 0) (xs ys : List ℕ) → All P (xs ++ ys) → All P xs
all-left P [] ys h = All-nil P
all-left P (x ∷ xs) ys h = All-cons P x xs (All-head P x (xs ++ ys) h) (all-left P xs ys (All-tail P x (xs ++ ys) h))

all-right : (P : ℕ → Type 0) (xs ys : List ℕ) → All P (xs ++ ys) → All P ys
all-right P [] ys h = h
all-right P (x ∷ xs) ys h = all-right P xs ys (All-tail P x (xs ++ ys) h)

-- the numbers of pages in units without a page are the pages
same-pages : (unit : ℕ) (pages : List ℕ) → map (λ page. unit * 0 + page) pages ≡ pages
same-pages unit [] = refl
same-pages unit (page ∷ pages) = let same : unit * 0 + page ≡ page = omega arith in λ i. same i ∷ same-pages unit pages i

-- a copy between pages of data units
record IsBetweenPages (c : DriveConfig) (x : Copied) : Type 0 where
  from_page : x.from.page < c.unit_pages
  to : IsPage c x.to

between-pages : (c : DriveConfig) (t : PageTables) (rg : ℕ) (pass : Pass) → cut_of t.units ≡ record { unit_pages = c.unit_pages; group_units = c.units; groups = c.groups } → AreJoined t → IsGroup t.units rg → (passes_at t rg).pass ≡ Some pass
    → All (IsBetweenPages c) (copies_of_blocks (owner_at t.owners) pass.copies)
between-pages c t rg pass cut joined group is =
    let h = (joined.groups rg group).copied pass is in
    let size : t.units.unit_pages ≡ c.unit_pages = ap (λ (k : Cut). k.unit_pages) cut in
    let units : length t.units.groups * t.units.group_units ≡ c.groups * c.units = ap (λ (k : Cut). k.groups * k.group_units) cut in
    All-filter (λ (x : Copied). is_some (name_at (owner_at t.owners) x.from)) (IsBetweenPages c) pass.copies (each-copy (IsBetweenPages c) pass.copies (λ x within.
    let lie = h.lie x within in
    record { from_page = omega (arith, lie.from_page, size); to = (omega (arith, lie.is_unit, units), omega (arith, lie.used, lie.within, size)) }))

module _ (c : DriveConfig) (copies : List Copied) (between : All (IsBetweenPages c) copies) where
  old-pages : (victim : UnitPages) → IsDataUnit c victim.unit → AreOldPages victim copies → ArePagesOfUnit c victim
  old-pages victim unit old =
      let pages : map (λ (x : Copied). x.from.unit * 0 + x.from.page) copies ≡ pages_of_set victim.pages = sym (old.numbers (record c { unit_pages = 0 })) ∙ same-pages victim.unit (pages_of_set victim.pages) in
      record {
        unit = unit;
        pages = subst (All (λ page. page < c.unit_pages)) pages (All-map (λ page. page < c.unit_pages) (λ (x : Copied). x.from.unit * 0 + x.from.page) copies
            (All-weaker (IsBetweenPages c) (λ (x : Copied). x.from.unit * 0 + x.from.page < c.unit_pages) (λ x h. omega (arith, h.from_page)) copies between));
      }

  new-pages : (first : UnitPages) (second : Option UnitPages) → AreNewPages first second copies → All (λ page. page < c.unit_pages) (pages_of_set first.pages ++ pages_of_set (target_or_none second).pages)
  new-pages first second new =
      let pages : map (λ (x : Copied). x.to.unit * 0 + x.to.page) copies ≡ pages_of_set first.pages ++ pages_of_set (target_or_none second).pages =
      sym (new.numbers (record c { unit_pages = 0 })) ∙ (λ i. same-pages first.unit (pages_of_set first.pages) i ++ same-pages (target_or_none second).unit (pages_of_set (target_or_none second).pages) i) in
      subst (All (λ page. page < c.unit_pages)) pages (All-map (λ page. page < c.unit_pages) (λ (x : Copied). x.to.unit * 0 + x.to.page) copies
      (All-weaker (IsBetweenPages c) (λ (x : Copied). x.to.unit * 0 + x.to.page < c.unit_pages) (λ x h. omega (arith, h.to.1)) copies between))

  target-pages : (pages : UnitPages) → IsTargetOf copies pages → All (λ page. page < c.unit_pages) (pages_of_set pages.pages) → ArePagesOfUnit c pages
  target-pages pages target low = record { unit = subst (IsDataUnit c) target.unit_is (All-contains (IsBetweenPages c) copies target.copy between target.among).to.0; pages = low }

  second-pages : (second : Option UnitPages) → IfSome second (IsTargetOf copies) → All (λ page. page < c.unit_pages) (pages_of_set (target_or_none second).pages) → IfSome second (ArePagesOfUnit c)
  second-pages None target low = tt
  second-pages (Some pages) target low = target-pages pages target low

move-named-fits : (c : DriveConfig) (p : Point) (t : PageTables) (rg : ℕ) (pass : Pass) (ruhs : List ℕ) (change : Change) (e : Entry) → IsOrderly c p → cut_of t.units ≡ record { unit_pages = c.unit_pages; group_units = c.units; groups = c.groups } → AreJoined t → IsGroup t.units rg → (passes_at t rg).pass ≡ Some pass
    → IsMoveOf (copies_of_blocks (owner_at t.owners) pass.copies) ruhs change → FitsDrawn c p change e
move-named-fits c p t rg pass ruhs change e orderly cut joined group is move =
    let copies : List Copied = copies_of_blocks (owner_at t.owners) pass.copies in
    let between = between-pages c t rg pass cut joined group is in
    let units : length t.units.groups * t.units.group_units ≡ c.groups * c.units = ap (λ (k : Cut). k.groups * k.group_units) cut in
    let unit : IsDataUnit c move.victim.unit = omega (arith, victim-is t rg pass ruhs change joined group is move, ((joined.groups rg group).ready.victim pass is).is_unit, units) in
    let low = new-pages c copies between move.first move.second move.new in
    let first : ArePagesOfUnit c move.first = target-pages c copies between move.first move.new.first_target (all-left (λ page. page < c.unit_pages) (pages_of_set move.first.pages) (pages_of_set (target_or_none move.second).pages) low) in
    let second = second-pages c copies between move.second move.new.second_target (all-right (λ page. page < c.unit_pages) (pages_of_set move.first.pages) (pages_of_set (target_or_none move.second).pages) low) in
    subst (λ (x : Change). FitsDrawn c p x e) (sym move.change_is) (move-fits c p move.victim move.first move.second ruhs e orderly (old-pages c copies between move.victim unit move.old) first second)

-- ---- the change of the move

-- Where a change names the copies of blocks of a pass, and the blocks that they take along are listed beside it, the move is saved by it
pub of-move : (c : DriveConfig) (p : Point) (written : Spot → Option Written) (at : Behind Page) (t : PageTables) (rg : ℕ) (pass : Pass) (change : Change) → IsOrderly c p → IsStanding c p → AreLed c p written at t → rg < c.groups
    → cut_of t.units ≡ record { unit_pages = c.unit_pages; group_units = c.units; groups = c.groups } → AreJoined t → IsGroup t.units rg → (passes_at t rg).pass ≡ Some pass → (pass.copies ≡ [] → ⊥)
    → (copies : List Copied) (handles : List ℕ) (blocks : List MovedBlock) → copies ≡ copies_of_blocks (owner_at t.owners) (copies_at t rg) → blocks ≡ map (moved_of (owner_at t.owners)) (copies_of_blocks (owner_at t.owners) (copies_at t rg)) → handles ≡ map (λ (x : MovedBlock). x.ruh) blocks
    → IsMoveOf copies handles change → IsChangeOfEntry c p (entries.Moved (record { rg = rg; blocks = moved_blocks p rg })) change blocks
of-move c p written at t rg pass change orderly standing led low cut joined group is some copies handles blocks copies_are blocks_are handles_are named =
    let same : copies_of_blocks (owner_at t.owners) (copies_at t rg) ≡ copies_of_blocks (owner_at t.owners) pass.copies = ap (copies_of_blocks (owner_at t.owners)) (copies-are t rg pass is) in
    of-kept (blocks_are ∙ ap (map (moved_of (owner_at t.owners))) same)
    (subst (λ (xs : List Copied). IsMoveOf xs (map (λ (x : MovedBlock). x.ruh) blocks) change) (copies_are ∙ same) (subst (λ (ns : List ℕ). IsMoveOf copies ns change) handles_are named))
  where
    of-kept : blocks ≡ map (moved_of (owner_at t.owners)) (copies_of_blocks (owner_at t.owners) pass.copies) → IsMoveOf (copies_of_blocks (owner_at t.owners) pass.copies) (map (λ (x : MovedBlock). x.ruh) blocks) change
        → IsChangeOfEntry c p (entries.Moved (record { rg = rg; blocks = moved_blocks p rg })) change blocks
    of-kept listed move = record {
      saves = move-saved c p written at t rg pass change orderly standing led low cut joined group is some (known listed move);
      fits = move-named-fits c p t rg pass (map (λ (x : MovedBlock). x.ruh) blocks) change (entries.Moved (record { rg = rg; blocks = moved_blocks p rg })) orderly cut joined group is move;
      totals = totals-entry p.totals (entries.Moved (record { rg = rg; blocks = moved_blocks p rg })) change (ap blocks_of_change move.change_is) refl refl;
      lists = moved-listed c p written at t rg pass change orderly standing led low cut joined group is some blocks (known listed move) listed;
    } where
      known : blocks ≡ map (moved_of (owner_at t.owners)) (copies_of_blocks (owner_at t.owners) pass.copies) → IsMoveOf (copies_of_blocks (owner_at t.owners) pass.copies) (map (λ (x : MovedBlock). x.ruh) blocks) change
          → IsMoveOf (copies_of_blocks (owner_at t.owners) pass.copies) (map (λ (x : MovedBlock). x.ruh) (map (moved_of (owner_at t.owners)) (copies_of_blocks (owner_at t.owners) pass.copies))) change
      known listed move = subst (λ (bs : List MovedBlock). IsMoveOf (copies_of_blocks (owner_at t.owners) pass.copies) (map (λ (x : MovedBlock). x.ruh) bs) change) listed move

-- ---- the blocks that are moved

pub none-moved : (owners : Spot → Option Owner) (xs : List Copied) → length (copies_of_blocks owners xs) ≡ 0 → names_of owners xs ≡ []
none-moved owners xs none = names-listed owners xs ∙ ap (λ (ys : List Copied). map (λ (x : MovedBlock). x.name) (map (moved_of owners) ys)) (empty (copies_of_blocks owners xs) none) where
  empty : (ys : List Copied) → length ys ≡ 0 → ys ≡ []
  empty [] e = refl
  empty (y ∷ ys) e = absurd (omega (arith, e))

pub some-moved : (owners : Spot → Option Owner) (xs : List Copied) → 0 < length (copies_of_blocks owners xs) → names_of owners xs ≡ [] → ⊥
some-moved owners xs some none = nothing (copies_of_blocks owners xs) some (sym (names-listed owners xs) ∙ none) where
  nothing : (ys : List Copied) → 0 < length ys → map (λ (x : MovedBlock). x.name) (map (moved_of owners) ys) ≡ [] → ⊥
  nothing [] low e = absurd (omega (arith, low))
  nothing (y ∷ ys) low e = cc

true-false : true ≡ false → ⊥
true-false e = cc

pub none-counted : (n : ℕ) → (n == 0) ≡ true → n ≡ 0
none-counted n e = ⊎_elim (λ (h : (n == 0 ≡ true) × (n ≡ 0)). h.1) (λ (h : (n == 0 ≡ false) × (n ≢ 0)). absurd (true-false (sym e ∙ h.0))) (eqb_tells n 0)

pub some-counted : (n : ℕ) → (n == 0) ≡ false → 0 < n
some-counted n e = ⊎_elim (λ (h : (n == 0 ≡ true) × (n ≡ 0)). absurd (true-false (sym h.0 ∙ e))) (λ (h : (n == 0 ≡ false) × (n ≢ 0)). omega (arith, h.1)) (eqb_tells n 0)
