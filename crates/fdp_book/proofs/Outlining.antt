-- What an outline at a point says, and what an entry more makes of it.
use Rattle.std.proofs.Common.{◌≡◌, ℕ, ◌+◌, ◌≤◌, Bool, true, false, List, [], ◌∷◌, ◌++◌, length, Option, Some, None, refl, sym, ◌∙◌, ap, subst, arith, length-append, not}
use Rattle.std.specs.Prelude.{IsFalse, IsTrue, if◌then◌else◌, option_map}
use Rattle.std.specs.Option.{option_map_or}
use Rattle.fdp_base.specs.declared.config.DriveConfig.{DriveConfig}
use Rattle.fdp_base.specs.declared.entry.Entry.{Entry}
use Rattle.fdp_base.specs.declared.entry.Entry.TheVariants as entries
use Rattle.fdp_base.specs.declared.entry.Totals.{Totals}
use Rattle.fdp_base.specs.CommandKinds.{blocks_written}
use Rattle.fdp_book.specs.Changes.{IsChangeOfEntry}
use Rattle.fdp_book.specs.Outlined.{AreFew, Counts, IsOutlineAt, IsOutlineBehind, Makes}
use Rattle.fdp_history.specs.Orderly.{IsOrderly}
use Rattle.fdp_history.specs.Standing.{IsStanding}
use Rattle.fdp_image.specs.Checkpoint.{in_place, namespace_of, reading_of_state}
use Rattle.fdp_image.specs.Reading.{Reading}
use Rattle.fdp_outline.specs.declared.moved_block.MovedBlock.{MovedBlock}
use Rattle.fdp_outline.specs.Handles.{handles_at, namespace_at}
use Rattle.fdp_outline.specs.Outline.{IsOutlineOf}
use Rattle.fdp_outline.proofs.Saying.{outline-later, outline-totals}
use Rattle.fdp_pointers.specs.Contents.{leaves_pages}
use Rattle.fdp_readings.specs.Drawn.{drawn}
use Rattle.fdp_readings.specs.Lasting.{leaves_nothing}
use Rattle.fdp_readings.proofs.Staying.{drawn-still}
use Rattle.fdp_records.specs.declared.change.Change.{Change}
use Rattle.fdp_rules.specs.History.{Found, point_of, totals_of}
use Rattle.fdp_rules.specs.Next.{next, totals_with}
use Rattle.fdp_rules.specs.PlainState.{Namespace}
use Rattle.fdp_rules.specs.Point.{Point}
use Rattle.fdp_rules.specs.Room.{handles_of}
use Rattle.fdp_rules.specs.Step.{Follows}
use Rattle.fdp_rules.specs.Totals.{erases_of, host_blocks_of, media_blocks_of}
use Rattle.fdp_rules.proofs.Pushes.{point_of-push}
use Rattle.fdp_snapshot.specs.declared.space.Space.{Space}
use Rattle.fdp_snapshot.specs.declared.state.Summary.{Summary}

-- ---- what it says

pub namespaces-said : (c : DriveConfig) (p : Point) (s : Summary) → IsOutlineAt c p s → (nsid : ℕ) → p.state.namespaces nsid ≡ namespace_at s nsid
unfolding reading_of_state
namespaces-said c p s h nsid = sym (ap (λ (r : Reading). r.namespaces nsid) h.outline.says)

handles-same : (o : Option Space) → option_map_or (λ (x : Namespace). x.handles) (option_map namespace_of o) [] ≡ option_map_or (λ (x : Space). x.handles) o []
handles-same None = refl
handles-same (Some x) = refl

-- the handles of a namespace, by those that stand in an outline
pub handles-at : (s : Summary) (nsid : ℕ) → option_map_or (λ (x : Namespace). x.handles) (namespace_at s nsid) [] ≡ handles_at s nsid
handles-at s nsid = handles-same (in_place s.spaces nsid)

pub handles-said : (c : DriveConfig) (p : Point) (s : Summary) → IsOutlineAt c p s → (nsid : ℕ) → handles_of p.state nsid ≡ handles_at s nsid
handles-said c p s h nsid = ap (λ (o : Option Namespace). option_map_or (λ (x : Namespace). x.handles) o []) (namespaces-said c p s h nsid) ∙ handles-at s nsid

pub enabled-said : (c : DriveConfig) (p : Point) (s : Summary) → IsOutlineAt c p s → p.state.enabled ≡ s.enabled
unfolding reading_of_state
enabled-said c p s h = sym (ap (λ (r : Reading). r.enabled) h.outline.says)

pub index-said : (c : DriveConfig) (p : Point) (s : Summary) → IsOutlineAt c p s → p.state.index ≡ s.index
unfolding reading_of_state
index-said c p s h = sym (ap (λ (r : Reading). r.index) h.outline.says)

pub generation-said : (c : DriveConfig) (p : Point) (s : Summary) → IsOutlineAt c p s → p.state.generation ≡ s.generation
unfolding reading_of_state
generation-said c p s h = sym (ap (λ (r : Reading). r.generation) h.outline.says)

-- ---- an entry more

-- the sums stay few
pub few-with : (es : List Entry) (e : Entry) (t new : Totals) → host_blocks_of e ≤ 64 → media_blocks_of e ≤ 1 → erases_of e ≤ 1 → new ≡ totals_with t e → AreFew es t → AreFew (es ++ e ∷ []) new
few-with es e t new host media erased is h =
    let count : length (es ++ e ∷ []) ≡ length es + 1 = length-append es (e ∷ []) in
    record {
      few_host_blocks = omega (arith, ap (λ (x : Totals). x.host_blocks) is, h.few_host_blocks, host, count);
      few_media_blocks = omega (arith, ap (λ (x : Totals). x.media_blocks) is, h.few_media_blocks, media, count);
      few_erases = omega (arith, ap (λ (x : Totals). x.erases) is, h.few_erases, erased, count);
    }

-- an entry that leaves nothing writes no block of a host
none-written : (b : Bool) (n : ℕ) → not b ≡ true → (if b then n else 0) ≡ 0
none-written true n e = absurd cc
none-written false n e = refl

pub no-host-blocks : (e : Entry) → IsTrue (leaves_nothing e) → host_blocks_of e ≡ 0
no-host-blocks (entries.Host h) is = none-written h.reply.applied (blocks_written h.command) is
no-host-blocks (entries.Started x) is = refl
no-host-blocks (entries.Placed x) is = refl
no-host-blocks (entries.Copied x) is = refl
no-host-blocks (entries.Moved x) is = refl
no-host-blocks (entries.Erased x) is = refl
no-host-blocks (entries.Retired x) is = refl
no-host-blocks (entries.Aside x) is = refl
no-host-blocks (entries.Shut x) is = refl
no-host-blocks (entries.Worn x) is = refl
no-host-blocks entries.Reopened is = refl

count-bound : (b : Bool) → (if b then 1 else 0) ≤ 1
count-bound true = omega arith
count-bound false = omega arith

plus-zero : (n k : ℕ) → k ≡ 0 → n ≡ n + k
plus-zero n k none = omega (arith, none)

-- it only counts
pub behind-counted : (c : DriveConfig) (f : Found) (es : List Entry) (e : Entry) (s new : Summary) → IsTrue (leaves_nothing e) → IsOrderly c (point_of c f es) → IsStanding c (point_of c f es) → (IsFalse (leaves_pages e) → Follows true c (point_of c f es) e)
    → IsOutlineAt c (point_of c f es) s → AreFew es s.totals → Counts (media_blocks_of e) (erases_of e) s new → IsOutlineBehind c f es e new
unfolding next
behind-counted c f es e s new nothing orderly standing follows h few counts =
    let p : Point = point_of c f es in
    let drawn_is : drawn c (next c p e) ≡ record (drawn c p) { totals = totals_of f (es ++ e ∷ []) } =
    ap (drawn c) (sym (point_of-push c f es e)) ∙ drawn-still true c f es e nothing orderly standing follows in
    let later : IsOutlineOf c (drawn c (next c p e)) s = subst (λ (r : Reading). IsOutlineOf c r s) (sym drawn_is) (outline-later c (drawn c p) s (totals_of f (es ++ e ∷ [])) h.outline) in
    let counted : Totals = record s.totals { position = s.totals.position + 1; media_blocks = s.totals.media_blocks + media_blocks_of e; erases = s.totals.erases + erases_of e } in
    let behind : new.totals ≡ totals_with s.totals e =
    ap (λ (x : Summary). x.totals) counts.is
    ∙ ap (λ (n : ℕ). record counted { host_blocks = n }) (plus-zero s.totals.host_blocks (host_blocks_of e) (no-host-blocks e nothing)) in
    record {
      at = record {
        outline = subst (IsOutlineOf c (drawn c (next c p e))) (sym counts.is) (outline-totals c (drawn c (next c p e)) s counted later);
        totals = behind ∙ ap (λ (t : Totals). totals_with t e) h.totals;
      };
      few = few-with es e s.totals new.totals (omega (arith, no-host-blocks e nothing)) (count-bound _) (count-bound _) behind few;
    }

-- a saved change was made
pub behind-made : (c : DriveConfig) (f : Found) (es : List Entry) (e : Entry) (change : Change) (moved : List MovedBlock) (s new : Summary) → host_blocks_of e ≤ 64 → IsOutlineAt c (point_of c f es) s → AreFew es s.totals → IsChangeOfEntry c (point_of c f es) e change moved → Makes c change moved s new → IsOutlineBehind c f es e new
unfolding next
behind-made c f es e change moved s new host h few of_entry makes =
    let at : IsOutlineAt c (next c (point_of c f es) e) new = makes.behind (point_of c f es) e h of_entry in
    record {
      at = at;
      few = few-with es e s.totals new.totals host (count-bound _) (count-bound _) (at.totals ∙ ap (λ (t : Totals). totals_with t e) (sym h.totals)) few;
    }
