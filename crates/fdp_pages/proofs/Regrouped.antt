-- What joins the tables stands after the relocation of one group changed.
use Rattle.std.proofs.Common.{◌≡◌, ◌≢◌, ℕ, ◌<◌, ◌≤◌, List, Option, Some, None, refl, ap, sym, ◌∙◌, subst, arith, ⊎_elim, length, get_or-set_other, get_or-set_same}
use Rattle.std.specs.Prelude.{Contains, IsSome, IsTrue, is_some, option_map, slice_index_or, slice_set}
use Rattle.std.proofs.lemmas.Bool.{cases_eq}
use Rattle.std.proofs.lemmas.List.{length-set}
use Rattle.fdp_base.specs.declared.config.Class.{Class}
use Rattle.fdp_base.specs.declared.entry.Copied.{Copied}
use Rattle.fdp_collector.specs.Ready.{AreLive, IsUnitOf, lane_at}
use Rattle.fdp_owners.specs.OwnerTable.{OwnerTable, owner_at}
use Rattle.fdp_pages.specs.Joined.{AreCopied, AreFilled, AreJoined, IsRelocating}
use Rattle.fdp_pages.specs.PageTables.{PageTables, copies_at, is_under_way, no_passes, passes_at}
use Rattle.fdp_pages.specs.Steps.{HasMoved, ended_move}
use Rattle.fdp_pages.proofs.Fitting.{AreFit, fit-sound, sound-fit}
use Rattle.fdp_pages.proofs.Owning.{cut-kept, group-was}
use Rattle.fdp_pages.proofs.Places.{no, one}
use Rattle.fdp_pages.proofs.Worked.{begun-copied}
use Rattle.fdp_passes.specs.Due.{IsOldPage, copies_in}
use Rattle.fdp_passes.specs.GroupPasses.{GroupPasses, Pass, without_copies}
use Rattle.fdp_passes.specs.Room.{room_in, wanted_in}
use Rattle.fdp_units.specs.declared.state.UnitState.TheVariants.{Closed}
use Rattle.fdp_units.specs.UnitTable.{IsGroup, UnitTable, cut_of, unit_at}

-- ---- the passes of one group are others

pub passes-here : (t : PageTables) (rg : ℕ) (p : GroupPasses) → rg < length t.passes → slice_index_or (slice_set t.passes rg p) rg no_passes ≡ p
passes-here t rg p low = get_or-set_same t.passes rg p no_passes low

pub passes-there : (t : PageTables) (rg other : ℕ) (p : GroupPasses) → other ≢ rg → slice_index_or (slice_set t.passes rg p) other no_passes ≡ passes_at t other
passes-there t rg other p ne = get_or-set_other t.passes rg other p no_passes ne

pub group-low : (t : PageTables) (rg : ℕ) → AreJoined t → IsGroup t.units rg → rg < length t.passes
group-low t rg was is = omega (arith, is, was.cut.passes)

pub one-group : (t : PageTables) (rg : ℕ) (new : UnitTable) (p : GroupPasses) → AreJoined t → IsGroup t.units rg → cut_of new ≡ cut_of t.units → AreFit new → AreLive new t.owners → AreFilled t.handles new t.owners → IsRelocating (record { passes = p; units = new }) t.owners t.handles.classes rg
    → ((other : ℕ) → other ≢ rg → IsGroup t.units other → IsRelocating (record { passes = passes_at t other; units = new }) t.owners t.handles.classes other)
    → AreJoined (record t { units = new; passes = slice_set t.passes rg p })
one-group t rg new p was is cut fit live filled own others =
    let same = cut-kept t new t.owners cut (record { unit_pages = refl; pages = refl }) was.cut in
    let count : length (slice_set t.passes rg p) ≡ length t.passes = length-set t.passes rg p in
    record {
      cut = record {
        passes = count ∙ same.passes;
        groups = same.groups;
        unit_pages = same.unit_pages;
        owners = same.owners;
        some_page = same.some_page;
        some_handle = same.some_handle;
        few_handles = same.few_handles;
      };
      sound = sound-fit new t.owners same.some_page same.owners live fit;
      live = live;
      lanes = was.lanes;
      filled = filled;
      groups = λ k there. ⊎_elim
          (λ (e : k ≡ rg). subst (λ (n : ℕ). IsRelocating (record { passes = slice_index_or (slice_set t.passes rg p) n no_passes; units = new }) t.owners t.handles.classes n) (sym e)
          (subst (λ (q : GroupPasses). IsRelocating (record { passes = q; units = new }) t.owners t.handles.classes rg) (sym (passes-here t rg p (group-low t rg was is))) own))
          (λ (ne : k ≢ rg). subst (λ (q : GroupPasses). IsRelocating (record { passes = q; units = new }) t.owners t.handles.classes k) (sym (passes-there t rg k p ne)) (others k ne (group-was t.units new k cut there)))
          (cases_eq k rg);
    }

-- ---- the copies are done with

ended-in : (p : GroupPasses) (t : UnitTable) (o : OwnerTable) (classes : List Class) (rg : ℕ) (pass : Pass) → p.pass ≡ Some pass → ((copy : Copied) → Contains pass.copies copy → owner_at o copy.from ≡ None) → IsRelocating (record { passes = p; units = t }) o classes rg → IsRelocating (record { passes = record p { pass = Some (without_copies pass) }; units = t }) o classes rg
ended-in p t o classes rg pass under moved was = record {
  ready = record {
    cut = record { passes = was.ready.cut.passes; owners = was.ready.cut.owners; pages = was.ready.cut.pages };
    victim = λ q e. subst (λ (z : Pass). IsUnitOf t rg z.victim Closed) (one e) (was.ready.victim pass under);
    copied = λ q page e. subst (λ (z : Pass). page < z.next → IsSome (owner_at o (record { unit = z.victim; page = page })) → IsOldPage z.copies (record { unit = z.victim; page = page })) (one e) (λ low some. absurd (dead page low some));
    targets = record { targets = was.ready.targets.targets; apart = was.ready.targets.apart };
    live = was.ready.live;
    lanes = was.ready.lanes;
    enough = λ q page x e low owns.
        let z : without_copies pass ≡ q = one e in
        let before : wanted_in p o ≤ room_in p t (lane_at classes x) = was.ready.enough pass page x under (subst (λ (y : Pass). y.next ≤ page) (sym z) low) (ap (λ (y : Pass). owner_at o (record { unit = y.victim; page = page })) z ∙ owns) in
        subst (λ (y : Option Pass). wanted_in (record p { pass = y }) o ≤ room_in (record p { pass = y }) t (lane_at classes x)) under before;
  };
  targeted = record { targeted = was.targeted.targeted; lanes = was.targeted.lanes; own = was.targeted.own };
  copied = λ q e. subst (λ (z : Pass). AreCopied (record { passes = record p { pass = Some (without_copies pass) }; units = t }) o classes rg z) (one e) (begun-copied _ o classes rg (without_copies pass) refl);
  gains = λ q e. subst (λ (z : Pass). (unit_at t z.victim).live < t.unit_pages) (one e) (was.gains pass under);
} where
  dead : (page : ℕ) → page < pass.next → IsSome (owner_at o (record { unit = pass.victim; page = page })) → ⊥
  dead page low some =
      let old = was.ready.copied pass page under low some in
      no (sym (ap is_some (ap (owner_at o) (sym old.2) ∙ moved old.0 old.1)) ∙ some)

pub end-joined : (t : PageTables) (rg : ℕ) → AreJoined t → IsGroup t.units rg → IsTrue (is_under_way t rg) → HasMoved t rg → AreJoined (record t { passes = slice_set t.passes rg (ended_move (passes_at t rg)) })
end-joined t rg was is under moved = one-group t rg t.units (ended_move (passes_at t rg)) was is refl (fit-sound t.units was.sound) was.live was.filled (own (passes_at t rg).pass refl under) (λ other ne there. was.groups other there) where
  own : (q : Option Pass) → (passes_at t rg).pass ≡ q → IsTrue (is_some q) → IsRelocating (record { passes = ended_move (passes_at t rg); units = t.units }) t.owners t.handles.classes rg
  own None e f = absurd (no f)
  own (Some pass) e f =
      let copies : copies_at t rg ≡ pass.copies = ap (λ (q : Option Pass). copies_in (record (passes_at t rg) { pass = q })) e in
      subst (λ (q : Option Pass). IsRelocating (record { passes = record (passes_at t rg) { pass = q }; units = t.units }) t.owners t.handles.classes rg) (sym (ap (option_map without_copies) e))
      (ended-in (passes_at t rg) t.units t.owners t.handles.classes rg pass e (λ copy in_copies. moved copy (subst (λ (xs : List Copied). Contains xs copy) (sym copies) in_copies)) (was.groups rg is))
