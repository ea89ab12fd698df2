-- A commit that is defined on the newest rows goes behind the others; without memory all is as it was.
use Rattle.std.proofs.Common.{◌≡◌, ◌+◌, true, List, [], ◌∷◌, ◌++◌, length, subst, sym, ap, ◌∙◌}
use Rattle.std.specs.List.{AllByRecursion}
use Rattle.rows.specs.declared.commit.Commit.{Commit}
use Rattle.rows.specs.declared.entry.Entry.{Entry}
use Rattle.rows.specs.Shape.{shape_of}
use Rattle.mvcc.specs.VersionList.{VersionList, defined_at}
use Rattle.mvcc.specs.Inner.Chains.{and_entries, AreChains, AreLinkable}
use Rattle.mvcc.specs.Inner.Columns.{columns_after, last_after}
use Rattle.mvcc.specs.Inner.RowBytes.{HasValue}
use Rattle.mvcc.proofs.Keeping.{versions-push, linkable, restored}
use Rattle.mvcc.proofs.versions.Versions.add.Goals as goal
use Rattle.mvcc.proofs.versions.Versions.add.Goals.{After-link_commit}

-- the commit is defined on the newest rows
defined : (c : After-link_commit)
    → defined_at (record { schema = c.self.inside.schema; commits = c.self.inside.commits.items })
    (length c.self.inside.commits.items) c.args.commit.entries ≡ true
defined c =
    subst (λ (v : VersionList). defined_at v (length v.commits) c.args.commit.entries ≡ true) (sym c.self.view_is) c.requires

-- and can be linked
may : (c : After-link_commit)
    → AreLinkable (shape_of c.self.inside.schema) c.as_slice-commits.result.now c.as_slice-entries.result.now c.self.inside.columns
    c.self.inside.chains
may c =
    let inside = c.self.inside in
    let shape = shape_of inside.schema in
    subst (λ (commits : List Commit). AreLinkable shape commits c.as_slice-entries.result.now inside.columns inside.chains)
    (sym (c.as_slice-commits.ensures.value ∙ c.in-Ok.ensures.items))
    (subst (λ (entries : List Entry). AreLinkable shape inside.commits.items entries inside.columns inside.chains)
    (sym c.as_slice-entries.ensures)
    (linkable c.commits_are_defined_one_by_one.ensures.longer c.commits_are_defined_one_by_one.ensures.tables shape inside.commits.items
    inside.chains inside.columns inside.last c.args.commit c.self.invariant (defined c)))

pub invariant_of-self-2 : goal.invariant_of-self-2
invariant_of-self-2 c =
    let at = (goal.at.invariant_of-self-2 c).After-link_commit in
    let inside = c.self.inside in
    let shape = shape_of inside.schema in
    let commit = c.args.commit in
    let items : c.push_reserved.new.self.items ≡ inside.commits.items ++ commit ∷ [] =
    c.push_reserved.ensures.items ∙ ap (λ before. before ++ commit ∷ []) c.in-Ok.ensures.items in
    let linked : AreChains shape (and_entries inside.commits.items c.as_slice-entries.result.now) c.link_commit.new.self =
    subst (λ before. AreChains shape (and_entries before c.as_slice-entries.result.now) c.link_commit.new.self)
    (c.as_slice-commits.ensures.value ∙ c.in-Ok.ensures.items) (c.in-Ok-link_commit.ensures.linked shape (may at)) in
    let kept : AreChains shape (and_entries inside.commits.items commit.entries) c.link_commit.new.self =
    subst (λ entries. AreChains shape
    (and_entries inside.commits.items entries) c.link_commit.new.self) c.as_slice-entries.ensures linked in
    let valued = subst (AllByRecursion HasValue) c.as_slice-entries.ensures c.in-Ok-link_commit.ensures.valued in
    let sound =
    versions-push c.commits_are_defined_one_by_one.ensures.longer shape inside.commits.items
    inside.chains c.link_commit.new.self inside.columns inside.last commit c.self.invariant (defined at) valued kept in
    let count : length c.as_slice-commits.result.now + 1 ≡ length inside.commits.items + 1 =
    ap (λ commits. length commits + 1) (c.as_slice-commits.ensures.value ∙ c.in-Ok.ensures.items) in
    let columns : c.link_commit.new.columns ≡ columns_after (length inside.commits.items + 1) commit.entries inside.columns =
    c.in-Ok-link_commit.ensures.columns
    ∙ ap (λ n. columns_after n c.as_slice-entries.result.now inside.columns) count
    ∙ ap (λ entries. columns_after (length inside.commits.items + 1) entries inside.columns) c.as_slice-entries.ensures in
    let last : c.note.new.self ≡ last_after (length inside.commits.items + 1) commit.entries inside.last =
    c.note.ensures
    ∙ ap (λ n. last_after n c.as_slice-entries.result.now inside.last) count
    ∙ ap (λ entries. last_after (length inside.commits.items + 1) entries inside.last) c.as_slice-entries.ensures in
    rw (items, columns, last) sound

pub invariant_of-self-in_default-link_commit : goal.invariant_of-self-in_default-link_commit
invariant_of-self-in_default-link_commit c =
    let inside = c.self.inside in
    let shape = shape_of inside.schema in
    let items : c.reserve.new.self.items ≡ inside.commits.items = c.in-Ok.ensures.items in
    let kept : AreChains shape inside.commits.items c.link_commit.new.self =
    subst (λ commits. AreChains shape commits c.link_commit.new.self) (c.as_slice-commits.ensures.value ∙ items)
    (c.in_default-link_commit.ensures.err shape (may (goal.at.invariant_of-self-in_default-link_commit c).After-link_commit)) in
    let columns : c.replace_by.new.self ≡ inside.columns =
    c.replace_by.ensures
    ∙ restored c.as_slice-entries.result.now c.in-Ok-copy_for.before inside.columns c.link_commit.new.columns c.in-Ok-copy_for.ensures
    c.in_default-link_commit.ensures.stay in
    let was = c.self.invariant in
    rw (items, columns) (record { legal = was.legal; valued = was.valued; kept = kept; columns = was.columns; last = was.last })
