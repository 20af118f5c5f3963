-- A copy whose old page is live may be moved; where none is, the copies are done with.
use Rattle.std.proofs.Common.{◌≡◌, ◌≢◌, ℕ, ◌<◌, ◌≤◌, Bool, List, Option, Some, None, refl, ap, sym, ◌∙◌, subst, arith, length, get_or}
use Rattle.std.specs.Prelude.{Contains, IfSome, is_some, slice_get, if◌then◌else◌}
use Rattle.std.proofs.lemmas.List.{get_or_default}
use Rattle.std.proofs.lemmas.List.Elements.{Contains-get_or}
use Rattle.std.proofs.lemmas.Option.{slice_get-get_or}
use Rattle.fdp_base.specs.declared.config.Class.{Class}
use Rattle.fdp_base.specs.declared.entry.Copied.{Copied}
use Rattle.fdp_base.specs.declared.entry.Spot.{Spot}
use Rattle.fdp_collector.specs.Ready.{Relocation}
use Rattle.fdp_collector.proofs.Kept.{unit-kept}
use Rattle.fdp_owners.specs.declared.owner.Owner.{Owner}
use Rattle.fdp_owners.specs.OwnerTable.{IsPlace, OwnerTable, owner_at, with_owner}
use Rattle.fdp_pages.specs.Filling.{GoesWith, IsCopyPage, IsFreeOfPasses, MayFill}
use Rattle.fdp_pages.specs.Joined.{AreCopied, AreJoined, IsCopyOf}
use Rattle.fdp_pages.specs.PageTables.{PageTables, copies_at, no_passes, passes_at, relocation_at}
use Rattle.fdp_pages.specs.Steps.{ChangesOwners, Recounts, moved}
use Rattle.fdp_pages.proofs.Groups.{is_filled, pages-of}
use Rattle.fdp_pages.proofs.Owning.{group-was, next-kept, state-kept}
use Rattle.fdp_pages.proofs.Places.{IsFrom, from-lane, never, one, owner-cases, place-there}
use Rattle.fdp_pages.proofs.Recounting.{cleared-from, owner-here}
use Rattle.fdp_passes.specs.Due.{copies_in}
use Rattle.fdp_passes.specs.GroupPasses.{GroupPasses, Pass, slot_of, target_at}
use Rattle.fdp_units.specs.UnitTable.{IsGroup, IsUnit, UnitTable, group_in, unit_at}

-- an element stands at a place of the list
pub place-of : {X : Type 0} (xs : List X) (x : X) → Contains xs x → (i : ℕ) × (slice_get xs i ≡ Some x)
place-of {X} xs x is = (is.0, slice_get-get_or xs is.0 x is.1 ∙ ap (λ (y : X). Some y) is.2)

-- two copies of a pass with one new page are one
same-copy : (s : Relocation) (o : OwnerTable) (classes : List Class) (rg : ℕ) (pass : Pass) (a b : Copied) → AreCopied s o classes rg pass → Contains pass.copies a → Contains pass.copies b → a.to ≡ b.to → a ≡ b
same-copy s o classes rg pass a b h in_a in_b e =
    let i = place-of pass.copies a in_a in
    let j = place-of pass.copies b in_b in
    let same : i.0 ≡ j.0 = h.differ i.0 j.0 a b i.1 j.1 e in
    one (sym i.1 ∙ ap (slice_get pass.copies) same ∙ j.1)

-- the copy of a live page, in the pass under way of a group
pub record IsMoving (t : PageTables) (rg : ℕ) (pass : Pass) (copy : Copied) (x : Owner) : Type 0 where
  pub group : IsGroup t.units rg
  pub under_way : (passes_at t rg).pass ≡ Some pass
  pub is_copy : Contains pass.copies copy
  pub owned : owner_at t.owners copy.from ≡ Some x

module _ (t : PageTables) (rg : ℕ) (pass : Pass) (copy : Copied) (x : Owner) (was : AreJoined t) (is : IsMoving t rg pass copy x) where
  abbrev copied : AreCopied (relocation_at t rg) t.owners t.handles.classes rg pass
  copied = (was.groups rg is.group).copied pass is.under_way

  abbrev lie : IsCopyOf t.units rg pass copy
  lie = copied.lie copy is.is_copy

  -- the group of a pass whose victim or new page lies in this unit
  same-group : (other : ℕ) → group_in t.units copy.to.unit ≡ other → other ≡ rg
  same-group other e = sym e ∙ lie.group

  same-pass : (other : ℕ) (y : Pass) → other ≡ rg → (passes_at t other).pass ≡ Some y → y ≡ pass
  same-pass other y e under = one (sym under ∙ ap (λ (k : ℕ). (passes_at t k).pass) e ∙ is.under_way)

  victim-apart : (other : ℕ) (y : Pass) → IsGroup t.units other → (passes_at t other).pass ≡ Some y → copy.to.unit ≢ y.victim
  victim-apart other y there under e =
      let stands = (was.groups other there).ready.victim y under in
      let group : other ≡ rg = same-group other (ap (group_in t.units) e ∙ stands.group) in
      lie.apart (e ∙ ap (λ (z : Pass). z.victim) (same-pass other y group under))

  -- a copy of any pass with a new page in this unit is one of this pass
  same-copies : (other : ℕ) (y : Pass) (c : Copied) → IsGroup t.units other → (passes_at t other).pass ≡ Some y → Contains y.copies c → c.to.unit ≡ copy.to.unit → Contains pass.copies c
  same-copies other y c there under in_copies e =
      let group : other ≡ rg = same-group other (ap (group_in t.units) (sym e) ∙ (((was.groups other there).copied y under).lie c in_copies).group) in
      subst (λ (z : Pass). Contains z.copies c) (same-pass other y group under) in_copies

  module _ (new : UnitTable) (now : OwnerTable) (h : Recounts t.units new now) (cleared : owner_at now ≡ with_owner (owner_at t.owners) copy.from None) where
    abbrev after : PageTables
    after = record t { units = new; owners = now }

    from : (at : Spot) (y : Owner) → owner_at now at ≡ Some y → IsFrom (owner_at t.owners at) y
    from at y e = cleared-from (owner_at t.owners) copy.from at y (sym (ap (λ (f : Spot → Option Owner). f at) cleared) ∙ e)

    page : IsCopyPage after copy.to
    page =
        let next = next-kept t.units new now copy.to.unit h in
        let used : copy.to.page < (unit_at t.units copy.to.unit).next = lie.used in
        let within : (unit_at t.units copy.to.unit).next ≤ t.units.unit_pages = lie.within in
        record {
          is_unit = unit-kept t.units new copy.to.unit h.cut lie.is_unit;
          stands = ap is_filled (state-kept t.units new now copy.to.unit h) ∙ lie.stands;
          used = omega (arith, used, next);
          within = omega (arith, within, next, pages-of t.units new h.cut);
          unowned = owner-cases (owner_at now copy.to ≡ None) (owner_at now copy.to) (λ e. e) (λ y e. let f = from copy.to y e in absurd (never f.owner (sym (copied.await copy x is.is_copy is.owned).unowned ∙ f.was)));
        }

    goes : GoesWith after copy.to x
    goes = record {
      handle = was.lanes.handles copy.from x is.owned;
      way = λ other y same e.
          let f = from other y e in
          from-lane t.handles.classes (owner_at t.owners other) y f ∙ (copied.await copy x is.is_copy is.owned).way other f.owner same f.was;
      target = λ other lane there e.
          let before = group-was t.units new other h.cut there in
          let group : other ≡ rg = same-group other ((was.groups other before).ready.targets.targets (slot_of lane) copy.to.unit e).group in
          (copied.await copy x is.is_copy is.owned).target lane (ap (λ (k : ℕ). target_at (passes_at t k) lane) (sym group) ∙ e);
    }

    free : IsFreeOfPasses after copy.to x
    free = record {
      victim = λ other y there under. victim-apart other y (group-was t.units new other h.cut there) under;
      apart = λ other y c z there under in_copies owned e.
          let before = group-was t.units new other h.cut there in
          let own = same-copies other y c before under in_copies (ap (λ (s : Spot). s.unit) e) in
          let same : c ≡ copy = same-copy (relocation_at t rg) t.owners t.handles.classes rg pass c copy copied own is.is_copy e in
          let none : owner_at now copy.from ≡ None = ap (λ (f : Spot → Option Owner). f copy.from) cleared ∙ owner-here (owner_at t.owners) copy.from None in
          never z (sym none ∙ ap (λ (k : Copied). owner_at now k.from) (sym same) ∙ owned);
      way = λ other y c z there under in_copies owned e.
          let before = group-was t.units new other h.cut there in
          let own = same-copies other y c before under in_copies e in
          let f = from c.from z owned in
          let unit : c.from.unit ≡ copy.from.unit = (copied.lie c own).victim ∙ sym lie.victim in
          from-lane t.handles.classes (owner_at t.owners c.from) z f ∙ was.lanes.same c.from copy.from f.owner x unit f.was is.owned;
    }

    pub may-move : MayFill after copy.to x
    may-move = record { page = page; goes = goes; passes = free }

-- ---- the copy by its number

-- a pass is under way where there are copies, and they are its own
pub copies-of : (p : GroupPasses) (index : ℕ) → index < length (copies_in p) → (pass : Pass) × (p.pass ≡ Some pass) × (copies_in p ≡ pass.copies)
copies-of p index low = cases p.pass refl where
  cases : (q : Option Pass) → p.pass ≡ q → (pass : Pass) × (p.pass ≡ Some pass) × (copies_in p ≡ pass.copies)
  cases None e =
      let none : length (copies_in p) ≡ 0 = ap (λ (q : Option Pass). length (copies_in (record p { pass = q }))) e in
      absurd (omega (arith, none, low))
  cases (Some pass) e = (pass, e, ap (λ (q : Option Pass). copies_in (record p { pass = q })) e)

pub passes-read : (t : PageTables) (rg : ℕ) (g : GroupPasses) → AreJoined t → IsGroup t.units rg → g ≡ get_or t.passes rg g → g ≡ passes_at t rg
passes-read t rg g was is read =
    let low : rg < length t.passes = omega (arith, is, was.cut.passes) in
    read ∙ get_or_default t.passes rg g no_passes low

-- a copy of the pass under way, as it is read
pub record IsReadCopy (t : PageTables) (rg index : ℕ) (copy : Copied) : Type 0 where
  pub pass : Pass
  pub group : IsGroup t.units rg
  pub under_way : (passes_at t rg).pass ≡ Some pass
  pub is_copy : Contains pass.copies copy
  pub read : slice_get (copies_at t rg) index ≡ Some copy

pub read-copy : (t : PageTables) (rg index : ℕ) (g : GroupPasses) (copies : List Copied) (d : Copied) → AreJoined t → IsGroup t.units rg → g ≡ get_or t.passes rg g → IfSome g.pass (λ pass. copies ≡ pass.copies) → index < length (copies_at t rg) → IsReadCopy t rg index (get_or copies index d)
read-copy t rg index g copies d was is read has low =
    let same : g ≡ passes_at t rg = passes-read t rg g was is read in
    let of = copies-of (passes_at t rg) index low in
    let own : copies ≡ of.0.copies = subst (λ (q : Option Pass). IfSome q (λ pass. copies ≡ pass.copies)) (ap (λ (p : GroupPasses). p.pass) same ∙ of.1) has in
    let all : copies ≡ copies_at t rg = own ∙ sym of.2 in
    let within : index < length copies = omega (arith, low, ap length all) in
    record {
      pass = of.0;
      group = is;
      under_way = of.1;
      is_copy = subst (λ (xs : List Copied). Contains xs (get_or copies index d)) own (Contains-get_or copies index d within);
      read = ap (λ (xs : List Copied). slice_get xs index) (sym all) ∙ slice_get-get_or copies index d within;
    }

-- its old page has its place
pub copy-place : (t : PageTables) (rg index : ℕ) (copy : Copied) → AreJoined t → IsReadCopy t rg index copy → IsPlace t.owners copy.from
copy-place t rg index copy was is =
    let stands = (was.groups rg is.group).ready.victim is.pass is.under_way in
    let lie = ((was.groups rg is.group).copied is.pass is.under_way).lie copy is.is_copy in
    place-there t.units t.owners copy.from was.cut.owners (subst (λ (u : ℕ). IsUnit t.units u) (sym lie.victim) stands.is_unit) lie.from_page

-- after its old page lost its owner the new page may get it
pub may-move-read : (t new : PageTables) (rg index : ℕ) (copy : Copied) (x : Owner) → AreJoined t → IsReadCopy t rg index copy → owner_at t.owners copy.from ≡ Some x → ChangesOwners t new → owner_at new.owners ≡ with_owner (owner_at t.owners) copy.from None → MayFill new copy.to x
may-move-read t new rg index copy x was is owned h cleared =
    let moving : IsMoving t rg is.pass copy x = record { group = is.group; under_way = is.under_way; is_copy = is.is_copy; owned = owned } in
    let same : record t { units = new.units; owners = new.owners } ≡ new = λ k. record { handles = sym h.handles k; units = new.units; owners = new.owners; passes = sym h.passes k } in
    subst (λ (z : PageTables). MayFill z copy.to x) same (may-move t rg is.pass copy x was moving new.units new.owners h.units cleared)

-- the owners where the old page was live, and where it was not
pub moved-live : (owners : Spot → Option Owner) (copy : Copied) (x : Owner) → owners copy.from ≡ Some x → moved owners copy ≡ with_owner (with_owner owners copy.from None) copy.to (Some x)
moved-live owners copy x e =
    ap (λ (b : Bool). if b then with_owner (with_owner owners copy.from None) copy.to (owners copy.from) else owners) (ap is_some e)
    ∙ ap (with_owner (with_owner owners copy.from None) copy.to) e

pub moved-dead : (owners : Spot → Option Owner) (copy : Copied) → owners copy.from ≡ None → moved owners copy ≡ owners
moved-dead owners copy e = ap (λ (b : Bool). if b then with_owner (with_owner owners copy.from None) copy.to (owners copy.from) else owners) (ap is_some e)
