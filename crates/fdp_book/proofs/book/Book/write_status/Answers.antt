use Rattle.std.proofs.Common.{◌≡◌, ◌∙◌, ◌*◌, ◌<◌, ◌≤◌, ◌++◌, ℕ, List, [], Option, Some, None, ap, arith, length, refl, subst, sym}
use Rattle.std.specs.Int.{to_le_bytes, w16}
use Rattle.std.specs.Prelude.{flat_map, slice_index_or}
use Rattle.std.specs.Option.{option_map_or}
use Rattle.fdp_base.specs.declared.config.DriveConfig.{DriveConfig}
use Rattle.fdp_base.specs.Config.{IsValidConfig}
use Rattle.fdp_base.specs.Numbers.{numbers_below}
use Rattle.fdp_book.specs.Answering.{IsFilled, filled}
use Rattle.fdp_book.specs.Book.{BookSeen, point_in, state_in}
use Rattle.fdp_book.specs.Held.{book_of}
use Rattle.fdp_book.specs.Outlined.{IsOutlineAt}
use Rattle.fdp_book.proofs.Answering.{filled-none, written_of-end, written_of-first, written_of-next}
use Rattle.fdp_book.proofs.Outlining.{handles-said}
use Rattle.fdp_history.specs.OrderlyState.{IsOrderlyState}
use Rattle.fdp_history.proofs.Spaces.{in_force-within}
use Rattle.fdp_rules.specs.LogPages.{handle_status, status_descriptor, zeros}
use Rattle.fdp_rules.specs.PlainState.{Namespace, PlainState}
use Rattle.fdp_rules.specs.Room.{handles_in_force, handles_of}
use Rattle.fdp_outline.specs.Handles.{handles_at}
use Rattle.fdp_snapshot.specs.declared.state.Summary.{Summary}
use Rattle.fdp_book.proofs.book.Book.write_status.Goals as goal

-- the head of a status, and the descriptors of a placement handle
abbrev head : BookSeen → ℕ → List ℕ
head b nsid = zeros 14 ++ to_le_bytes w16 (length (handles_of (state_in b) nsid) * b.config.groups)

abbrev piece : BookSeen → (ℕ × ℕ) → List ℕ
piece b x = flat_map (status_descriptor b.config (state_in b) x.0 x.1) (numbers_below b.config.groups)

-- the handles of a namespace are below sixteen
small-handle : (c : DriveConfig) (s : PlainState) (nsid i : ℕ) → IsValidConfig c → IsOrderlyState c s → i < length (handles_of s nsid) → slice_index_or (handles_of s nsid) i 0 < 16
small-handle c s nsid i valid h below = by (s.namespaces nsid) refl below
  where
    by : (o : Option Namespace) → s.namespaces nsid ≡ o → i < length (option_map_or (λ (x : Namespace). x.handles) o []) → slice_index_or (option_map_or (λ (x : Namespace). x.handles) o []) i 0 < 16
    by None e low = absurd (omega (arith, low))
    by (Some x) e low =
        let one : slice_index_or x.handles i 0 < handles_in_force c s = (h.namespaces nsid x e).handles i 0 low in
        omega (arith, one, (in_force-within c s valid h.index).1)

-- the outline has the handles of the state
handles-are : (b now : BookSeen) (outline : Summary) (nsid : ℕ) (list : List ℕ) → b ≡ now → IsOutlineAt b.config (point_in b) outline → list ≡ handles_at outline nsid → list ≡ handles_of (state_in now) nsid
handles-are b now outline nsid list same at is =
    is ∙ sym (handles-said b.config (point_in b) outline at nsid) ∙ ap (λ (x : BookSeen). handles_of (state_in x) nsid) same

pub loop-handle-init : goal.loop-handle-init
loop-handle-init c =
    let groups : c.self.inside.config.groups ≡ c.args.self.now.config.groups = ap (λ (b : BookSeen). b.config.groups) c.self.view_is in
    let head_is : c.status_head.result ≡ head c.args.self.now c.args.nsid =
    c.status_head.ensures
    ∙ ap (λ (xs : List ℕ). zeros 14 ++ to_le_bytes w16 (length xs * c.self.inside.config.groups)) (handles-are (book_of c.self.inside.config c.self.inside.origin c.self.inside.log c.self.inside.tables) c.args.self.now c.self.inside.tables.outline c.args.nsid c.handles-handles.result.now c.self.view_is c.self.invariant.held.outline_is c.handles-handles.ensures.value)
    ∙ ap (λ (n : ℕ). zeros 14 ++ to_le_bytes w16 (length (handles_of (state_in c.args.self.now) c.args.nsid) * n)) groups in
    let size : length c.status_head.result ≡ 16 = ap (λ (xs : List ℕ). length xs) head_is in
    record {
      near = omega (arith, c.put-at.ensures.place, size);
      length_is = c.put-at.ensures.size;
      written = written_of-first (piece c.args.self.now) (handles_of (state_in c.args.self.now) c.args.nsid) (head c.args.self.now c.args.nsid) c.put-at.new.into c.put-at.result
          (subst (λ (xs : List ℕ). IsFilled c.put-at.new.into c.put-at.result xs) head_is (c.put-at.ensures.bytes [] (filled-none c.args.into.now c.requires)));
    }

pub write_handle-at-requires-clause-ruh : goal.write_handle-at-requires-clause-ruh
write_handle-at-requires-clause-ruh c =
    let held = c.self.invariant.held in
    let spaces : c.handles-handles.result.now ≡ handles_of (state_in c.args.self.now) c.args.nsid = handles-are (book_of c.self.inside.config c.self.inside.origin c.self.inside.log c.self.inside.tables) c.args.self.now c.self.inside.tables.outline c.args.nsid c.handles-handles.result.now c.self.view_is c.self.invariant.held.outline_is c.handles-handles.ensures.value in
    let valid : IsValidConfig c.args.self.now.config = subst (λ (b : BookSeen). IsValidConfig b.config) c.self.view_is held.config in
    let orderly : IsOrderlyState c.args.self.now.config (state_in c.args.self.now) = subst (λ (b : BookSeen). IsOrderlyState b.config (state_in b)) c.self.view_is held.orderly.state in
    subst (λ (xs : List ℕ). slice_index_or xs c.loop-handle.handle 0 < 16) (sym spaces)
    (small-handle c.args.self.now.config (state_in c.args.self.now) c.args.nsid c.loop-handle.handle valid orderly (subst (λ (xs : List ℕ). c.loop-handle.handle < length xs) spaces c.loop-handle-test.true))

few-handles : (c : DriveConfig) (s : PlainState) (nsid : ℕ) → IsOrderlyState c s → length (handles_of s nsid) ≤ 16
few-handles c s nsid h = by (s.namespaces nsid) refl
  where
    by : (o : Option Namespace) → s.namespaces nsid ≡ o → length (option_map_or (λ (x : Namespace). x.handles) o []) ≤ 16
    by None e = omega arith
    by (Some x) e = (h.namespaces nsid x e).number.1

pub write_handle-at-requires-clause-room : goal.write_handle-at-requires-clause-room
write_handle-at-requires-clause-room c =
    let orderly : IsOrderlyState c.args.self.now.config (state_in c.args.self.now) = subst (λ (b : BookSeen). IsOrderlyState b.config (state_in b)) c.self.view_is c.self.invariant.held.orderly.state in
    let below : c.loop-handle.handle < length (handles_of (state_in c.args.self.now) c.args.nsid) = subst (λ (xs : List ℕ). c.loop-handle.handle < length xs) (handles-are (book_of c.self.inside.config c.self.inside.origin c.self.inside.log c.self.inside.tables) c.args.self.now c.self.inside.tables.outline c.args.nsid c.handles-handles.result.now c.self.view_is c.self.invariant.held.outline_is c.handles-handles.ensures.value) c.loop-handle-test.true in
    omega (arith, c.loop-handle.invariant.near, below, few-handles c.args.self.now.config (state_in c.args.self.now) c.args.nsid orderly)

pub loop-handle-preserved : goal.loop-handle-preserved
loop-handle-preserved c =
    let groups : c.self.inside.config.groups ≡ c.args.self.now.config.groups = ap (λ (b : BookSeen). b.config.groups) c.self.view_is in
    let spaces : c.handles-handles.result.now ≡ handles_of (state_in c.args.self.now) c.args.nsid = handles-are (book_of c.self.inside.config c.self.inside.origin c.self.inside.log c.self.inside.tables) c.args.self.now c.self.inside.tables.outline c.args.nsid c.handles-handles.result.now c.self.view_is c.self.invariant.held.outline_is c.handles-handles.ensures.value in
    let below : c.loop-handle.handle < length (handles_of (state_in c.args.self.now) c.args.nsid) = subst (λ (xs : List ℕ). c.loop-handle.handle < length xs) spaces c.loop-handle-test.true in
    record {
      near = omega (arith, c.loop-handle.invariant.near, c.write_handle-at.ensures.place, groups, c.self.invariant.held.config.ranges.groups.1);
      length_is = c.write_handle-at.ensures.size ∙ c.loop-handle.invariant.length_is;
      written = written_of-next (piece c.args.self.now) (handles_of (state_in c.args.self.now) c.args.nsid) c.loop-handle.handle (head c.args.self.now c.args.nsid) c.loop-handle.into c.write_handle-at.new.into c.loop-handle.at c.write_handle-at.result 0 below
          (subst (λ (xs : List ℕ). (bytes : List ℕ) → IsFilled c.loop-handle.into c.loop-handle.at bytes → IsFilled c.write_handle-at.new.into c.write_handle-at.result (bytes ++ piece c.args.self.now (c.loop-handle.handle, slice_index_or xs c.loop-handle.handle 0))) spaces c.write_handle-at.ensures.bytes)
          c.loop-handle.invariant.written;
    }

pub returns-clause-bytes : goal.returns-clause-bytes
returns-clause-bytes c =
    let spaces : c.handles-handles.result.now ≡ handles_of (state_in c.args.self.now) c.args.nsid = handles-are (book_of c.self.inside.config c.self.inside.origin c.self.inside.log c.self.inside.tables) c.args.self.now c.self.inside.tables.outline c.args.nsid c.handles-handles.result.now c.self.view_is c.self.invariant.held.outline_is c.handles-handles.ensures.value in
    let past : length (handles_of (state_in c.args.self.now) c.args.nsid) ≤ c.loop-handle.handle = subst (λ (xs : List ℕ). length xs ≤ c.loop-handle.handle) spaces c.loop-handle-test.false in
    let whole = written_of-end (piece c.args.self.now) (handles_of (state_in c.args.self.now) c.args.nsid) c.loop-handle.handle (head c.args.self.now c.args.nsid) c.loop-handle.into c.loop-handle.at past c.loop-handle.invariant.written in
    whole.buffer_is ∙ ap (λ (n : ℕ). filled n (handle_status c.args.self.now.config (state_in c.args.self.now) c.args.nsid)) c.loop-handle.invariant.length_is
