use Rattle.std.proofs.Common.{◌≡◌, ◌-◌, Option, IfSome, false, if◌then◌else◌, refl, sym, ap, subst, ◌∙◌}
use Rattle.std.specs.List.{All, list_any}
use Rattle.volume_def.specs.Files.{records_of}
use Rattle.file_record.specs.declared.base.BaseFile.{BaseFile}
use Rattle.mft_table.specs.Mft.{view}
use Rattle.volume_def.specs.Readable.{IsDirectory}
use Rattle.tree_model.specs.Hidden.{leads_to_system}
use Rattle.tree_model.specs.declared.tree.Link.{Link}
use Rattle.tree_read.specs.Kinds as kind
use Rattle.tree_read.specs.Nodes.{IsFileHeld, number_of}
use Rattle.tree_read.proofs.GivesLaws.{at_once, both, handed-on, tells, told-kept}
use Rattle.tree_read.proofs.KindLaws.{dir-shorter, directory-kind, file-kind, link-file, parents-directories, system-kind}
use Rattle.tree_read.proofs.OutlineLaws.{links-told}
use Rattle.tree_read.proofs.below.load_below.Goals as goal

pub returns-then-link-lt-FIRST_ORDINARY-clause-found : goal.returns-then-link-lt-FIRST_ORDINARY-clause-found
returns-then-link-lt-FIRST_ORDINARY-clause-found g c = at_once refl (λ told.
    let dir = c.requires.directory told in (
      c.requires.above told,
      record {
        kind = system-kind (view g.D.Disk c.args.mft.now) (c.requires.volume told).sound c.args.dir c.args.link.now
            dir.directory dir.shown (c.requires.link told) c.if-link-lt-FIRST_ORDINARY.true;
        held = tt;
      },
    ))

pub load_file-requires-clause-file : goal.load_file-requires-clause-file
load_file-requires-clause-file g c = λ told.
    let dir = c.requires.directory told in
    link-file (view g.D.Disk c.args.mft.now) (c.requires.volume told).sound c.args.dir c.args.link.now
    dir.directory dir.shown (c.requires.link told)

pub returns-then-is_directory-clause-number : goal.returns-then-is_directory-clause-number
returns-then-is_directory-clause-number g c =
    subst (λ (o : Option BaseFile). IfSome o (λ held. number_of held ≡ c.args.link.now.child)) (sym c.directory_below.ensures.held)
    c.in_ok-file.ensures.number

pub returns-then-is_directory-clause-found : goal.returns-then-is_directory-clause-found
returns-then-is_directory-clause-found g c =
    tells c.in_ok-file.ensures.found refl (λ told is.
    let v = view g.D.Disk c.args.mft.now in
    let dir = c.requires.directory told in (
      c.requires.above told,
      record {
        kind = directory-kind v (c.requires.volume told).sound c.args.dir c.args.link.now dir.directory dir.shown (c.requires.link told)
            c.in_ok-file.file is c.if-link-lt-FIRST_ORDINARY.false (sym c.is_directory.ensures ∙ c.if-is_directory.true)
            ∙ sym c.directory_below.ensures.kind;
        held = subst (λ (o : Option BaseFile). IfSome o (IsFileHeld v c.args.link.now.child)) (sym c.directory_below.ensures.held) is;
      },
    ))

pub stands_in_hidden-requires-clause-directories : goal.stands_in_hidden-requires-clause-directories
stands_in_hidden-requires-clause-directories g c =
    let v = view g.D.Disk c.args.mft.now in
    told-kept (λ volume. All (λ (link : Link). IsDirectory volume link.parent) c.deref.result.now) c.in_ok-file.ensures.found.only (λ told.
    let is = c.in_ok-file.ensures.found.is told in
    let sound = (c.requires.volume told).sound in
    subst (All (λ (link : Link). IsDirectory v link.parent))
    (sym (c.deref.ensures.value ∙ c.in_ok-links.ensures ∙ links-told v c.args.link.now.child c.in_ok-file.file is sound))
    (parents-directories v sound c.args.link.now.child))

pub stands_in_hidden-requires-clause-shown : goal.stands_in_hidden-requires-clause-shown
stands_in_hidden-requires-clause-shown g c =
    told-kept (λ volume. leads_to_system (records_of volume) (volume.layout.count - 1) c.args.dir ≡ false) c.in_ok-file.ensures.found.only
    (λ told.
    let dir = c.requires.directory told in
    dir-shorter (view g.D.Disk c.args.mft.now) (c.requires.volume told).sound c.args.dir c.args.link.now
    dir.directory dir.shown (c.requires.link told))

pub returns-then-branch-clause-found : goal.returns-then-branch-clause-found
returns-then-branch-clause-found g c =
    tells (both c.in_ok-file.ensures.found c.in_ok-stands_in_hidden.ensures.found) refl (λ told is.
    let v = view g.D.Disk c.args.mft.now in
    let dir = c.requires.directory told in (
      is.1.0,
      record {
        kind = file-kind v (c.requires.volume told).sound c.args.dir c.args.link.now dir.directory dir.shown (c.requires.link told)
            c.in_ok-file.file c.in_ok-stands_in_hidden.field-0 is.0 c.if-link-lt-FIRST_ORDINARY.false
            (sym c.is_directory.ensures ∙ c.if-is_directory.false)
            (is.1.1 ∙ ap (list_any (λ (link : Link). leads_to_system (records_of v) (v.layout.count - 1) link.parent))
            (c.deref.ensures.value ∙ c.in_ok-links.ensures))
            ∙ ap (λ b. if b then kind.Hidden else kind.File) c.if-branch.true;
        held = tt;
      },
    ))

pub returns-clause-found : goal.returns-clause-found
returns-clause-found g c =
    tells (both c.in_ok-file.ensures.found c.in_ok-stands_in_hidden.ensures.found) refl (λ told is.
    let v = view g.D.Disk c.args.mft.now in
    let dir = c.requires.directory told in (
      is.1.0,
      record {
        kind = file-kind v (c.requires.volume told).sound c.args.dir c.args.link.now dir.directory dir.shown (c.requires.link told)
            c.in_ok-file.file c.in_ok-stands_in_hidden.field-0 is.0 c.if-link-lt-FIRST_ORDINARY.false
            (sym c.is_directory.ensures ∙ c.if-is_directory.false)
            (is.1.1 ∙ ap (list_any (λ (link : Link). leads_to_system (records_of v) (v.layout.count - 1) link.parent))
            (c.deref.ensures.value ∙ c.in_ok-links.ensures))
            ∙ ap (λ b. if b then kind.Hidden else kind.File) c.if-branch.false;
        held = is.0;
      },
    ))

pub returns-in_err-stands_in_hidden-clause-found : goal.returns-in_err-stands_in_hidden-clause-found
returns-in_err-stands_in_hidden-clause-found g c =
    rw (handed-on c.from_residual-in_err-stands_in_hidden.result c.in_err-stands_in_hidden.field-0.0
    c.from_residual-in_err-stands_in_hidden.ensures.1)
    (tells (both c.in_ok-file.ensures.found c.in_err-stands_in_hidden.ensures.found) refl (λ told is. is.1))
