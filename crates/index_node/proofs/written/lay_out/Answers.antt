use Rattle.std.proofs.Common.{◌≡◌, ◌+◌, ◌-◌, ◌<◌, ◌≤◌, ℕ, Bool, List, [], ◌∷◌, ap, sym, subst, ◌∙◌, arith}
use Rattle.vol_bytes.specs.Field.{SameOutside}
use Rattle.ntfs_def.specs.declared.index.NodeForm.{NodeForm}
use Rattle.index_node.specs.LayOut.{AreEntries, HoldsPieces, total_len}
use Rattle.index_node.proofs.LayOutLaws.{few_entries, need_is, laid_children, laid_end, laid_keeps, laid_node, laid_short}
use Rattle.index_node.proofs.written.lay_out.Goals as goal

begins : (first need : ℕ) → first ≤ first + need
begins first need = omega arith

fits : (first need end free room : ℕ) → need ≤ free → free ≡ end - first → end ≡ room → 0 < need → first + need ≤ room
fits first need end free room h e f some = omega arith

some_bytes : (form : NodeForm) (children : Bool) (entries : List (List ℕ)) → AreEntries form children entries → {need : ℕ}
    → need ≡ total_len entries → 0 < need
some_bytes form children [] are e = absurd are
some_bytes form children (entry ∷ entries) are e = let few = few_entries form children entry entries are in omega arith

pub put_header-requires-clause-end : goal.put_header-requires-clause-end
put_header-requires-clause-end c =
    let is = need_is (total_len c.args.entries.now) c.total_len-need.result c.saturating_sub-free.result c.room_end.result
    c.first_entry-first.result c.total_len-need.ensures c.if-need-free.false c.saturating_sub-free.ensures c.room_end.ensures.short in
    fits c.first_entry-first.result c.total_len-need.result c.room_end.result c.saturating_sub-free.result _
    c.if-need-free.false c.saturating_sub-free.ensures c.room_end.ensures.place
    (some_bytes c.args.form c.args.children c.args.entries.now c.requires.entries is)

pub put_entries-requires : goal.put_entries-requires
put_entries-requires c =
    let is = need_is (total_len c.args.entries.now) c.total_len-need.result c.saturating_sub-free.result c.room_end.result
    c.first_entry-first.result c.total_len-need.ensures c.if-need-free.false c.saturating_sub-free.ensures c.room_end.ensures.short in
    let room = fits c.first_entry-first.result c.total_len-need.result c.room_end.result c.saturating_sub-free.result _
    c.if-need-free.false c.saturating_sub-free.ensures c.room_end.ensures.place
    (some_bytes c.args.form c.args.children c.args.entries.now c.requires.entries is) in
    omega (arith, room, is, c.room_end.ensures.inside, c.room_end.ensures.place, c.put_header.ensures.len)

pub returns-clause-ok : goal.returns-clause-ok
returns-clause-ok c =
    let is = need_is (total_len c.args.entries.now) c.total_len-need.result c.saturating_sub-free.result c.room_end.result
    c.first_entry-first.result c.total_len-need.ensures c.if-need-free.false c.saturating_sub-free.ensures c.room_end.ensures.short in
    let old = c.args.node.now in
    let mid = c.put_header.new.node in
    let new = c.put_entries.new.node in
    let first = c.first_entry-first.result in
    let end = first + c.total_len-need.result in
    let rest : SameOutside mid new first end = subst (λ n. SameOutside mid new first (first + n))
    (sym is) c.put_entries.ensures.rest in
    laid_node old mid new c.args.children end first c.put_header.ensures c.first_entry-first.ensures.place rest c.requires.header
    (begins first c.total_len-need.result)
    (fits first c.total_len-need.result c.room_end.result c.saturating_sub-free.result _
    c.if-need-free.false c.saturating_sub-free.ensures c.room_end.ensures.place
    (some_bytes c.args.form c.args.children c.args.entries.now c.requires.entries is))
    c.args.form c.args.entries.now c.requires.entries c.put_entries.ensures.holds (ap (λ n. first + n) is)

pub returns-clause-short : goal.returns-clause-short
returns-clause-short c =
    let is = need_is (total_len c.args.entries.now) c.total_len-need.result c.saturating_sub-free.result c.room_end.result
    c.first_entry-first.result c.total_len-need.ensures c.if-need-free.false c.saturating_sub-free.ensures c.room_end.ensures.short in
    let old = c.args.node.now in
    let mid = c.put_header.new.node in
    let new = c.put_entries.new.node in
    let first = c.first_entry-first.result in
    let end = first + c.total_len-need.result in
    let rest : SameOutside mid new first end = subst (λ n. SameOutside mid new first (first + n))
    (sym is) c.put_entries.ensures.rest in
    let node = laid_node old mid new c.args.children end first c.put_header.ensures c.first_entry-first.ensures.place rest c.requires.header
    (begins first c.total_len-need.result)
    (fits first c.total_len-need.result c.room_end.result c.saturating_sub-free.result _
    c.if-need-free.false c.saturating_sub-free.ensures c.room_end.ensures.place
    (some_bytes c.args.form c.args.children c.args.entries.now c.requires.entries is))
    c.args.form c.args.entries.now c.requires.entries c.put_entries.ensures.holds (ap (λ n. first + n) is) in
    laid_short old mid new c.args.children end first c.put_header.ensures c.first_entry-first.ensures.place rest c.requires.header
    (begins first c.total_len-need.result)
    (fits first c.total_len-need.result c.room_end.result c.saturating_sub-free.result _
    c.if-need-free.false c.saturating_sub-free.ensures c.room_end.ensures.place
    (some_bytes c.args.form c.args.children c.args.entries.now c.requires.entries is))
    c.args.form c.args.entries.now c.requires.entries c.put_entries.ensures.holds node

pub returns-clause-end : goal.returns-clause-end
returns-clause-end c =
    let is = need_is (total_len c.args.entries.now) c.total_len-need.result c.saturating_sub-free.result c.room_end.result
    c.first_entry-first.result c.total_len-need.ensures c.if-need-free.false c.saturating_sub-free.ensures c.room_end.ensures.short in
    let old = c.args.node.now in
    let mid = c.put_header.new.node in
    let new = c.put_entries.new.node in
    let first = c.first_entry-first.result in
    let end = first + c.total_len-need.result in
    let rest : SameOutside mid new first end = subst (λ n. SameOutside mid new first (first + n))
    (sym is) c.put_entries.ensures.rest in
    laid_end old mid new c.args.children end first c.put_header.ensures c.first_entry-first.ensures.place rest c.requires.header
    (begins first c.total_len-need.result)
    (fits first c.total_len-need.result c.room_end.result c.saturating_sub-free.result _
    c.if-need-free.false c.saturating_sub-free.ensures c.room_end.ensures.place
    (some_bytes c.args.form c.args.children c.args.entries.now c.requires.entries is))
    ∙ omega (arith, is, c.first_entry-first.ensures.place)

pub returns-clause-header : goal.returns-clause-header
returns-clause-header c =
    let is = need_is (total_len c.args.entries.now) c.total_len-need.result c.saturating_sub-free.result c.room_end.result
    c.first_entry-first.result c.total_len-need.ensures c.if-need-free.false c.saturating_sub-free.ensures c.room_end.ensures.short in
    let old = c.args.node.now in
    let mid = c.put_header.new.node in
    let new = c.put_entries.new.node in
    let first = c.first_entry-first.result in
    let end = first + c.total_len-need.result in
    let rest : SameOutside mid new first end = subst (λ n. SameOutside mid new first (first + n))
    (sym is) c.put_entries.ensures.rest in
    laid_keeps old mid new c.args.children end first c.put_header.ensures c.first_entry-first.ensures.place rest c.requires.header
    (begins first c.total_len-need.result)
    (fits first c.total_len-need.result c.room_end.result c.saturating_sub-free.result _
    c.if-need-free.false c.saturating_sub-free.ensures c.room_end.ensures.place
    (some_bytes c.args.form c.args.children c.args.entries.now c.requires.entries is))

pub returns-clause-flag : goal.returns-clause-flag
returns-clause-flag c =
    let is = need_is (total_len c.args.entries.now) c.total_len-need.result c.saturating_sub-free.result c.room_end.result
    c.first_entry-first.result c.total_len-need.ensures c.if-need-free.false c.saturating_sub-free.ensures c.room_end.ensures.short in
    let old = c.args.node.now in
    let mid = c.put_header.new.node in
    let new = c.put_entries.new.node in
    let first = c.first_entry-first.result in
    let end = first + c.total_len-need.result in
    let rest : SameOutside mid new first end = subst (λ n. SameOutside mid new first (first + n))
    (sym is) c.put_entries.ensures.rest in
    laid_children old mid new c.args.children end first c.put_header.ensures c.first_entry-first.ensures.place rest c.requires.header
    (begins first c.total_len-need.result)
    (fits first c.total_len-need.result c.room_end.result c.saturating_sub-free.result _
    c.if-need-free.false c.saturating_sub-free.ensures c.room_end.ensures.place
    (some_bytes c.args.form c.args.children c.args.entries.now c.requires.entries is))

pub returns-clause-bytes : goal.returns-clause-bytes
returns-clause-bytes c =
    subst (λ at. HoldsPieces c.put_entries.new.node at c.args.entries.now) c.first_entry-first.ensures.place c.put_entries.ensures.holds
