-- Each change that saves an entry fits what is drawn before it.
use Rattle.std.proofs.Common.{◌≡◌, ℕ, zero, suc, ◌+◌, ◌*◌, ◌<◌, ◌≤◌, Bool, true, false, cond, List, [], ◌∷◌, length, get_or, Option, Some, None, refl, sym, ◌∙◌, ap, subst, arith, ⊎_elim}
use Rattle.std.specs.Prelude.{◌==◌, ◌&&◌, All, IfSome, IsTrue, is_none, is_some, map, nat_le, nat_lt, not, slice_get, slice_index, sum_by, unwrap_or}
use Rattle.std.specs.List.{list_all, list_any}
use Rattle.std.specs.Option.{option_map_or}
use Rattle.std.proofs.lemmas.Bool.{and_cases, and_from, and_right, cases_eq, eq-eqb, le-leb, leb-false, lt-ltb, ltb-false, not_from_false, or_left, or_parts, or_right}
use Rattle.std.proofs.lemmas.List.{length-map}
use Rattle.std.proofs.lemmas.List.Elements.{All-head, All-map, All-tail}
use Rattle.fdp_base.specs.declared.command.Command.{Command}
use Rattle.fdp_base.specs.declared.command.Command.TheVariants as commands
use Rattle.fdp_base.specs.declared.command.Create.{Create}
use Rattle.fdp_base.specs.declared.command.Dealloc.{Dealloc}
use Rattle.fdp_base.specs.declared.command.Delete.{Delete}
use Rattle.fdp_base.specs.declared.command.HandleUpdate.{HandleUpdate}
use Rattle.fdp_base.specs.declared.command.Range.{Range}
use Rattle.fdp_base.specs.declared.command.SetFdp.{SetFdp}
use Rattle.fdp_base.specs.declared.command.Write.{Write}
use Rattle.fdp_base.specs.declared.command.Zero.{Zero}
use Rattle.fdp_base.specs.declared.config.DriveConfig.{DriveConfig}
use Rattle.fdp_base.specs.declared.entry.Entry.{Entry}
use Rattle.fdp_base.specs.declared.entry.Spot.{Spot}
use Rattle.fdp_base.specs.declared.status.Status.{Status}
use Rattle.fdp_base.specs.CommandKinds.{blocks_written, write_of}
use Rattle.fdp_base.specs.Config.{IsValidConfig}
use Rattle.fdp_base.specs.Geometry.{data_units}
use Rattle.fdp_base.specs.Numbers.{has_repeat}
use Rattle.fdp_base.specs.Placement.{full_budget, geometry_of}
use Rattle.fdp_flash.specs.Layout.{page_number}
use Rattle.fdp_flash.proofs.Lists.{slice_get_there}
use Rattle.fdp_history.specs.Orderly.{IsOrderly}
use Rattle.fdp_history.proofs.Bounds.{handle-below, handles-in_force}
use Rattle.fdp_history.proofs.Checks.{IsAcceptedCreate, accepted-create, accepted-feature, passes}
use Rattle.fdp_history.proofs.Sizes.{budgets-whole}
use Rattle.fdp_history.proofs.Spaces.{free-is}
use Rattle.fdp_image.specs.Areas.{data_pages}
use Rattle.fdp_image.specs.Bits.{pages_of_set}
use Rattle.fdp_image.specs.Changed.{page_numbers}
use Rattle.fdp_image.specs.Fits.{are_data_pages, are_of_data_unit, has_namespace, is_born, is_handle_list, is_range_within, lies_within, names_what_is}
use Rattle.fdp_readings.specs.Changes.{AreItsPages, ArePagesOfUnit, FitsDrawn, change_of_write}
use Rattle.fdp_readings.specs.Drawn.{drawn}
use Rattle.fdp_readings.proofs.Drawing.{data-page, space-there}
use Rattle.fdp_records.specs.declared.change.Change.{Change}
use Rattle.fdp_records.specs.declared.change.Change.TheVariants as changes
use Rattle.fdp_records.specs.declared.change.UnitPages.{UnitPages}
use Rattle.fdp_rules.specs.Effect.{chosen_handles, lowest_free}
use Rattle.fdp_rules.specs.PlainState.{Going, Namespace}
use Rattle.fdp_rules.specs.Point.{Point}
use Rattle.fdp_rules.specs.Refusal.{Check, checks_of, first_that_holds, is_range_past_end, refusal_of}
use Rattle.fdp_rules.specs.Room.{handles_in_force, handles_of, namespace_ids, size_of}
use Rattle.fdp_rules.specs.Step.{IsHandle, MaySucceed}

-- ---- tests of lists

-- each element passes a test that follows from what holds of each
all-pass : {X : Type 0} (test : X → Bool) (P : X → Type 0) → ((x : X) → P x → test x ≡ true) → (xs : List X) → All P xs → list_all test xs ≡ true
all-pass test P each [] h = refl
all-pass test P each (x ∷ xs) h = and_from (test x) (list_all test xs) (each x (All-head P x xs h)) (all-pass test P each xs (All-tail P x xs h))

-- a test that each element passes
each-passes : {X : Type 0} (test : X → Bool) → ((x : X) → test x ≡ true) → (xs : List X) → list_all test xs ≡ true
each-passes test each [] = refl
each-passes test each (x ∷ xs) = and_from (test x) (list_all test xs) (each x) (each-passes test each xs)

-- where no element fails one test, each passes another
none-fails : {X : Type 0} (fails test : X → Bool) → ((x : X) → fails x ≡ false → test x ≡ true) → (xs : List X) → list_any fails xs ≡ false → list_all test xs ≡ true
none-fails fails test each [] e = refl
none-fails fails test each (x ∷ xs) e =
    let both = or_parts (fails x) (list_any fails xs) e in
    and_from (test x) (list_all test xs) (each x both.0) (none-fails fails test each xs both.1)

-- ---- namespaces

-- no namespace was created after this position
born : (c : DriveConfig) (p : Point) (nsid : ℕ) → IsOrderly c p → is_born (drawn c p) nsid (p.totals.position + 1) ≡ true
born c p nsid orderly = cases (p.state.namespaces nsid) refl where
  cases : (o : Option Namespace) → p.state.namespaces nsid ≡ o → option_map_or (λ (x : Namespace). nat_le x.birth (p.totals.position + 1)) o true ≡ true
  cases None e = refl
  cases (Some n) e = le-leb n.birth (p.totals.position + 1) (omega (arith, (orderly.state.namespaces nsid n e).birth, orderly.positions))

-- it is enough that it names what is there
pub fits-drawn : (c : DriveConfig) (p : Point) (change : Change) (e : Entry) → IsOrderly c p → IsTrue (names_what_is c (drawn c p) change) → FitsDrawn c p change e
fits-drawn c p change e orderly names = and_from _ (names_what_is c (drawn c p) change) (each-passes (λ nsid. is_born (drawn c p) nsid (p.totals.position + 1)) (λ nsid. born c p nsid orderly) namespace_ids) names

is-there : (o : Option Namespace) → is_none o ≡ false → is_some o ≡ true
is-there None e = absurd cc
is-there (Some n) e = refl

-- blocks that lie in a namespace that has so many
within : (c : DriveConfig) (p : Point) (nsid slba count : ℕ) → 1 ≤ count → slba + count ≤ size_of p.state nsid → lies_within (drawn c p) nsid slba count ≡ true
within c p nsid slba count some low =
    let there = space-there p.state nsid slba (omega (arith, some, low)) in
    and_from (has_namespace (drawn c p) nsid) (nat_le (slba + count) (size_of p.state nsid)) (ap is_some there.1) (le-leb (slba + count) (size_of p.state nsid) low)

range-within : (c : DriveConfig) (p : Point) (nsid : ℕ) (x : Range) → is_range_past_end p.state nsid x ≡ false → is_range_within (drawn c p) nsid x ≡ true
range-within c p nsid x e =
    ⊎_elim
    (λ (none : x.length ≡ 0). or_left (x.length == 0) (lies_within (drawn c p) nsid x.slba x.length) (eq-eqb x.length 0 none))
    (λ some.
    or_right (x.length == 0) (lies_within (drawn c p) nsid x.slba x.length)
    (⊎_elim
    (λ (empty : nat_lt 0 x.length ≡ false). let none = ltb-false 0 x.length empty in absurd (omega (arith, none, some)))
    (λ (past : nat_lt (size_of p.state nsid) (x.slba + x.length) ≡ false). within c p nsid x.slba x.length (omega (arith, some)) (ltb-false (size_of p.state nsid) (x.slba + x.length) past))
    (and_cases (nat_lt 0 x.length) (nat_lt (size_of p.state nsid) (x.slba + x.length)) e)))
    (cases_eq x.length 0)

-- ---- a write

module _ (c : DriveConfig) (p : Point) (queue : ℕ) (w : Write) (g : Going) (spots : List Spot) (orderly : IsOrderly c p) (going : p.state.going queue ≡ Some g) (command : g.command ≡ commands.Write w) (may : MaySucceed c p g) (its : AreItsPages p g spots) where
  numbers-low : All (λ n. n < data_pages (geometry_of c)) (map (page_number (geometry_of c)) spots)
  numbers-low = All-map (λ n. n < data_pages (geometry_of c)) (page_number (geometry_of c)) spots (λ k d low.
      let there = slice_get_there spots k low in
      let site = its.sites k there.0 there.1 in
      subst (λ (x : Spot). page_number (geometry_of c) x < data_pages (geometry_of c)) (sym (read spots k d there.0 there.1)) (data-page c there.0 (orderly.sites g.ticket k there.0 site).page)) where
        read : (xs : List Spot) (k : ℕ) (d x : Spot) → slice_get xs k ≡ Some x → get_or xs k d ≡ x
        read [] k d x e = absurd cc
        read (y ∷ ys) zero d x e = cc
        read (y ∷ ys) (suc k) d x e = read ys k d x e

  pub write-fits : (e : Entry) → FitsDrawn c p (change_of_write c w g spots) e
  unfolding names_what_is
  write-fits e =
      let numbers : List ℕ = map (page_number (geometry_of c)) spots in
      let long : length numbers ≡ w.count = length-map spots (page_number (geometry_of c)) ∙ its.size ∙ ap blocks_written command in
      let count : 1 ≤ w.count = subst (λ (n : ℕ). 1 ≤ n) (ap blocks_written command) (orderly.state.writes queue g going).count.0 in
      let range : w.slba + w.count ≤ size_of p.state w.nsid = subst (λ (k : Command). IfSome (write_of k) (λ (x : Write). x.slba + x.count ≤ size_of p.state x.nsid)) command ((orderly.state.writes queue g going).range may.there) in
      fits-drawn c p (change_of_write c w g spots) e orderly
      (and_from (lies_within (drawn c p) w.nsid w.slba (length numbers)) (are_data_pages c numbers)
      (subst (λ (n : ℕ). lies_within (drawn c p) w.nsid w.slba n ≡ true) (sym long) (within c p w.nsid w.slba w.count count range))
      (all-pass (λ page. nat_lt page (data_pages (geometry_of c))) (λ n. n < data_pages (geometry_of c)) (λ n low. lt-ltb n (data_pages (geometry_of c)) low) numbers numbers-low))

-- ---- the other commands

module _ (c : DriveConfig) (p : Point) (orderly : IsOrderly c p) (e : Entry) where
  pub zero-fits : (x : Zero) → refusal_of c p (commands.Zero x) ≡ None → FitsDrawn c p (changes.Clear x.nsid (record { slba = x.slba; length = x.count } ∷ [])) e
  unfolding names_what_is checks_of
  zero-fits x accepted =
      let held = passes c p (commands.Zero x) accepted in
      let past : nat_lt (size_of p.state x.nsid) (x.slba + x.count) ≡ false = held.1.1.0 in
      let one : is_range_within (drawn c p) x.nsid (record { slba = x.slba; length = x.count }) ≡ true = range-within c p x.nsid (record { slba = x.slba; length = x.count }) (and_right (nat_lt 0 x.count) (nat_lt (size_of p.state x.nsid) (x.slba + x.count)) past) in
      fits-drawn c p (changes.Clear x.nsid (record { slba = x.slba; length = x.count } ∷ [])) e orderly
      (and_from (has_namespace (drawn c p) x.nsid) _ (is-there (p.state.namespaces x.nsid) held.0)
      (and_from (is_range_within (drawn c p) x.nsid (record { slba = x.slba; length = x.count })) true one refl))

  pub dealloc-fits : (x : Dealloc) → refusal_of c p (commands.Dealloc x) ≡ None → FitsDrawn c p (changes.Clear x.nsid x.ranges) e
  unfolding names_what_is checks_of
  dealloc-fits x accepted =
      let held = passes c p (commands.Dealloc x) accepted in
      fits-drawn c p (changes.Clear x.nsid x.ranges) e orderly
      (and_from (has_namespace (drawn c p) x.nsid) _ (is-there (p.state.namespaces x.nsid) held.0)
      (none-fails (is_range_past_end p.state x.nsid) (is_range_within (drawn c p) x.nsid) (range-within c p x.nsid) x.ranges held.1.1.0))

  pub update-fits : (x : HandleUpdate) (closed : ℕ) → refusal_of c p (commands.Update x) ≡ None → FitsDrawn c p (changes.Update x.nsid closed x.pids) e
  unfolding names_what_is checks_of
  update-fits x closed accepted =
      let held = passes c p (commands.Update x) accepted in
      fits-drawn c p (changes.Update x.nsid closed x.pids) e orderly (is-there (p.state.namespaces x.nsid) held.0)

  pub delete-fits : (x : Delete) → refusal_of c p (commands.Delete x) ≡ None → FitsDrawn c p (changes.Delete x.nsid) e
  unfolding names_what_is checks_of
  delete-fits x accepted =
      let held = passes c p (commands.Delete x) accepted in
      fits-drawn c p (changes.Delete x.nsid) e orderly (is-there (p.state.namespaces x.nsid) held.0)

  pub placement-fits : (x : SetFdp) (generation : ℕ) → refusal_of c p (commands.SetFdp x) ≡ None → FitsDrawn c p (changes.SetFdp x.enable x.index generation) e
  unfolding names_what_is
  placement-fits x generation accepted =
      let held = accepted-feature c p x.group x.enable x.index accepted in
      fits-drawn c p (changes.SetFdp x.enable x.index generation) e orderly
      (and_from (not (list_any (has_namespace (drawn c p)) namespace_ids)) (nat_lt x.index (length c.fdp)) (not_from_false (list_any (has_namespace (drawn c p)) namespace_ids) held.1) (lt-ltb x.index (length c.fdp) held.0))

  pub kinds-fit : (nsid handle mask : ℕ) (on : Bool) → IsValidConfig c → mask < 64 → FitsDrawn c p (changes.SetEvents (slice_index (handles_of p.state nsid) handle) on mask) e
  unfolding names_what_is
  kinds-fit nsid handle mask on valid low =
      let ruh : ℕ = slice_index (handles_of p.state nsid) handle in
      fits-drawn c p (changes.SetEvents ruh on mask) e orderly
      (and_from (nat_lt ruh (handles_in_force c p.state)) (nat_lt mask 64) (lt-ltb ruh (handles_in_force c p.state) (handle-below c p.state valid orderly.state nsid handle)) (lt-ltb mask 64 low))

  pub shut-fits : (rg ruh : ℕ) → IsHandle c p rg ruh → FitsDrawn c p (changes.Shut rg ruh) e
  unfolding names_what_is
  shut-fits rg ruh is =
      fits-drawn c p (changes.Shut rg ruh) e orderly
      (and_from (nat_lt rg c.groups) (nat_lt ruh (handles_in_force c p.state)) (lt-ltb rg c.groups is.group) (lt-ltb ruh (handles_in_force c p.state) is.handle))

-- ---- a namespace

-- the handles that a namespace gets
handles-chosen : (count : ℕ) (list : List ℕ) → 1 ≤ count → length list ≤ 16 → All (λ ruh. nat_le count ruh ≡ false) list → has_repeat list ≡ false → is_handle_list count (chosen_handles list) ≡ true
unfolding has_repeat
handles-chosen count [] some few known once = and_from _ _ (and_from _ _ refl (and_from (nat_lt 0 count) true (lt-ltb 0 count (omega (arith, some))) refl)) refl
handles-chosen count (x ∷ xs) some few known once =
    and_from _ _
    (and_from _ _
    (and_from _ _ (lt-ltb 0 (length (x ∷ xs)) (omega arith)) (le-leb (length (x ∷ xs)) 16 few))
    (all-pass (λ ruh. nat_lt ruh count) (λ ruh. nat_le count ruh ≡ false) (λ ruh less. lt-ltb ruh count (leb-false count ruh less)) (x ∷ xs) known))
    (not_from_false (has_repeat (x ∷ xs)) once)

pub create-fits : (c : DriveConfig) (p : Point) (x : Create) (given : Bool) (e : Entry) → IsValidConfig c → IsOrderly c p → refusal_of c p (commands.Create x) ≡ None → FitsDrawn c p (changes.Create (unwrap_or (lowest_free p.state) 0) x.size given (chosen_handles x.list)) e
unfolding names_what_is
create-fits c p x given e valid orderly accepted =
    let held : IsAcceptedCreate c p.state x.size x.list = accepted-create c p x.size x.given x.list accepted in
    let free = free-is p.state held.free in
    let count : ℕ = handles_in_force c p.state in
    let handles = handles-chosen count x.list (handles-in_force c p.state valid orderly.state).0 held.number held.handles held.distinct in
    let room : sum_by (size_of p.state) namespace_ids + x.size ≤ full_budget c count = omega (arith, held.fits, budgets-whole c p.state) in
    subst (λ (o : Option ℕ). FitsDrawn c p (changes.Create (unwrap_or o 0) x.size given (chosen_handles x.list)) e) (sym free.1)
    (fits-drawn c p (changes.Create free.0 x.size given (chosen_handles x.list)) e orderly
    (and_from _ _
    (and_from (nat_le 1 free.0 && nat_lt free.0 (1 + 16)) _ (and_from (nat_le 1 free.0) (nat_lt free.0 (1 + 16)) (le-leb 1 free.0 free.3.0) (lt-ltb free.0 (1 + 16) (omega (arith, free.3.1)))) (not_from_false (has_namespace (drawn c p) free.0) (ap is_some free.2)))
    (and_from _ _ (and_from (nat_lt 0 x.size) _ (lt-ltb 0 x.size (omega (arith, held.size_is))) handles) (le-leb (sum_by (size_of p.state) namespace_ids + x.size) (full_budget c count) room))))

-- ---- a move

-- pages of a data unit are of that unit
of-unit : (c : DriveConfig) (x : UnitPages) → ArePagesOfUnit c x → are_of_data_unit c x ≡ true
of-unit c x h =
    let end : ℕ = (x.unit + 1) * c.unit_pages in
    let low : All (λ n. n < end) (page_numbers c x) = All-map (λ n. n < end) (λ (page : ℕ). x.unit * c.unit_pages + page) (pages_of_set x.pages) (λ k d less. let one = h.pages k d less in omega (arith, one)) in
    and_from (nat_lt x.unit (data_units (geometry_of c))) (list_all (λ number. nat_lt number end) (page_numbers c x))
    (lt-ltb x.unit (data_units (geometry_of c)) h.unit)
    (all-pass (λ number. nat_lt number end) (λ n. n < end) (λ n less. lt-ltb n end less) (page_numbers c x) low)

second-of-unit : (c : DriveConfig) (o : Option UnitPages) → IfSome o (ArePagesOfUnit c) → option_map_or (are_of_data_unit c) o true ≡ true
second-of-unit c None h = refl
second-of-unit c (Some x) h = of-unit c x h

pub move-fits : (c : DriveConfig) (p : Point) (victim first : UnitPages) (second : Option UnitPages) (handles : List ℕ) (e : Entry) → IsOrderly c p → ArePagesOfUnit c victim → ArePagesOfUnit c first → IfSome second (ArePagesOfUnit c)
    → FitsDrawn c p (changes.Moved victim first second handles) e
unfolding names_what_is
move-fits c p victim first second handles e orderly old new other =
    fits-drawn c p (changes.Moved victim first second handles) e orderly
    (and_from _ _ (and_from (are_of_data_unit c victim) (are_of_data_unit c first) (of-unit c victim old) (of-unit c first new)) (second-of-unit c second other))
