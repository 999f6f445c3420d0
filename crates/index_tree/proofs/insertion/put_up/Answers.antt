use Rattle.std.proofs.Common.{Result, Ok, Err, IfOk, ap, ◌∙◌, arith}
use Rattle.ntfs_def.specs.Node.{short_node}
use Rattle.index_tree.proofs.EditMemory.{apart_of, is_some_of, wrote}
use Rattle.index_tree.proofs.insertion.put_up.Goals as goal

IfOk-map : {T E : Type 0} {P Q : T → Type 0} (r : Result T E) → ((x : T) → P x → Q x) → IfOk r P → IfOk r Q
IfOk-map (Ok x) f h = f x h
IfOk-map (Err e) f h = tt

pub write-requires-clause-there : goal.write-requires-clause-there
write-requires-clause-there g c = c.requires.there

pub write-requires-clause-opened : goal.write-requires-clause-opened
write-requires-clause-opened g c = λ r told. c.in-Ok.ensures.ok.opened c.args.vcn (c.requires.opened r told)

pub write-requires-clause-apart : goal.write-requires-clause-apart
write-requires-clause-apart g c =
    let n = c.in-Ok.ensures.ok.node c.requires.place.said c.requires.place.is in
    apart_of c.args.form c.insert_at.new.node (is_some_of n) (omega (arith, c.in-Ok.ensures.ok.header.len, c.told-block))

pub returns-in_ok-write-in-Ok-clause-placed : goal.returns-in_ok-write-in-Ok-clause-placed
returns-in_ok-write-in-Ok-clause-placed g c =
    let done = c.in_ok-write-in-Ok.ensures.done in
    record {
      back = done.back;
      on = λ r told.
          let a = done.on r told in (
            a.0,
            a.1,
            λ said is.
                wrote c.sealed_nodes.ensures.place c.sealed_nodes.ensures.short c.args.form c.args.vcn c.insert_at.new.node r a.0 a.2
                (c.in-Ok.ensures.ok.opened c.args.vcn (c.requires.opened r told)).len _
                (c.in-Ok.ensures.ok.short c.requires.up.short said is),
          );
    }

pub returns-in-Err-clause-placed : goal.returns-in-Err-clause-placed
returns-in-Err-clause-placed g c =
    IfOk-map c.put_anew.result
    (λ out placed. record {
      back = placed.back;
      on = λ r told.
          let a = placed.on r told in
          (a.0, a.1, λ said is. a.2 said (ap (short_node c.args.form) c.in-Err.ensures.kept ∙ is));
    })
    c.put_anew.ensures.placed
