use Rattle.std.proofs.Common.{◌≡◌, ℕ, List, [], ◌∷◌, ◌<◌, ◌≤◌, ◌+◌, ◌++◌, length, arith, ap, ◌∙◌, length-append, append_assoc}
use Rattle.dl_headers.specs.Header.{storage_header}
use Rattle.dl_trace.specs.Batch.{parted}
use Rattle.dl_trace.proofs.Batches.{length-parted, parted-one, bytes_most, one_more}
use Rattle.dl_trace.proofs.batch.StoredBatch.push.Goals as goal

pub unwrap-requires : goal.unwrap-requires
unwrap-requires c =
    let sizes = c.self.inside.sizes.items in
    let bytes = c.self.inside.bytes.items in
    let few : length sizes < 64 = omega (arith, c.requires.few, length-parted sizes bytes, ap (λ (frames : List (List ℕ)). length frames) c.self.view_is) in
    let most = bytes_most sizes bytes c.self.invariant.sized in
    c.extend_from_slice.ensures.succeeds (omega (arith, most, few, c.self.inside.bytes.ok.0, c.self.invariant.room))

pub unwrap-requires-2 : goal.unwrap-requires-2
unwrap-requires-2 c =
    let sizes = c.self.inside.sizes.items in
    let bytes = c.self.inside.bytes.items in
    let few : length sizes < 64 = omega (arith, c.requires.few, length-parted sizes bytes, ap (λ (frames : List (List ℕ)). length frames) c.self.view_is) in
    let most = bytes_most sizes bytes c.self.invariant.sized in
    let now = rw c.unwrap.ensures at c.extend_from_slice.ensures.len in
    c.extend_from_slice-2.ensures.succeeds (omega (arith, now, most, few, c.self.inside.bytes.ok.0, c.self.invariant.room, c.extend_from_slice.ensures.capacity, c.requires.size))

pub push-requires : goal.push-requires
push-requires c =
    let sizes = c.self.inside.sizes.items in
    let bytes = c.self.inside.bytes.items in
    let few : length sizes < 64 = omega (arith, c.requires.few, length-parted sizes bytes, ap (λ (frames : List (List ℕ)). length frames) c.self.view_is) in
    (omega arith, few)

pub invariant_of-self : goal.invariant_of-self
invariant_of-self c =
    let sizes = c.self.inside.sizes.items in
    let bytes = c.self.inside.bytes.items in
    let header = c.storage_header-header.result in
    let frame = c.args.frame.now in
    let first = rw c.unwrap.ensures at c.extend_from_slice.ensures.items in
    let second = rw c.unwrap-2.ensures at c.extend_from_slice-2.ensures.items in
    let all : c.extend_from_slice-2.new.self.items ≡ bytes ++ (header ++ frame) = second ∙ ap (λ (b : List ℕ). b ++ frame) first ∙ append_assoc bytes header frame in
    let few : length sizes < 64 = omega (arith, c.requires.few, length-parted sizes bytes, ap (λ (frames : List (List ℕ)). length frames) c.self.view_is) in
    let len : 16 + length frame ≡ length (header ++ frame) = omega (arith, length-append header frame) in
    let more = one_more sizes bytes (16 + length frame) (header ++ frame) c.self.invariant.sized len (omega (arith, c.requires.some)) (omega (arith, c.requires.size)) in
    record {
      few = omega (arith, few, c.push.ensures.len);
      sized = rw (c.push.ensures.items, all) more;
      room = omega (arith, c.self.invariant.room, c.extend_from_slice.ensures.capacity, c.extend_from_slice-2.ensures.capacity);
    }

pub returns : goal.returns
returns c =
    let sizes = c.self.inside.sizes.items in
    let bytes = c.self.inside.bytes.items in
    let header = c.storage_header-header.result in
    let frame = c.args.frame.now in
    let first = rw c.unwrap.ensures at c.extend_from_slice.ensures.items in
    let second = rw c.unwrap-2.ensures at c.extend_from_slice-2.ensures.items in
    let all : c.extend_from_slice-2.new.self.items ≡ bytes ++ (header ++ frame) = second ∙ ap (λ (b : List ℕ). b ++ frame) first ∙ append_assoc bytes header frame in
    let len : 16 + length frame ≡ length (header ++ frame) = omega (arith, length-append header frame) in
    ap (λ (ns : List ℕ). parted ns c.extend_from_slice-2.new.self.items) c.push.ensures.items
    ∙ ap (λ (b : List ℕ). parted (sizes ++ (16 + length frame) ∷ []) b) all
    ∙ parted-one sizes bytes (16 + length frame) (header ++ frame) c.self.invariant.sized.whole len
    ∙ ap (λ (fs : List (List ℕ)). fs ++ (header ++ frame) ∷ []) c.self.view_is
    ∙ ap (λ (h : List ℕ). c.args.self.now ++ (h ++ frame) ∷ []) c.storage_header-header.ensures
