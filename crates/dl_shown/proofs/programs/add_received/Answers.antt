use Rattle.std.proofs.Common.{List, ◌∷◌, [], ◌++◌, map}
use Rattle.dl_tree.specs.declared.tree.Tree.{Tree}
use Rattle.dl_shown.specs.Shown.{listed, name_of, label_of}
use Rattle.dl_shown.specs.Programs.{sent_tag}
use Rattle.dl_shown.proofs.Moved.{put-moved, four-more}
use Rattle.dl_shown.proofs.programs.add_received.Goals as goal

pub returns : goal.returns
returns c =
    let names = c.args.names.now in
    let decls = c.args.decls.now in
    let old : List Tree = c.args.parts.now in
    put-moved c.push-4.result c.push-4.new.self (c.push-3.new.self ++ c.in_ok-name_list.field-0 ∷ [])
    (old ++ (label_of names decls c.args.label ∷ sent_tag names decls c.args.label c.args.tag ∷ name_of names c.args.sender ∷ listed (map (name_of names) c.args.args.now) ∷ []))
    c.push-4.ensures.ok
    (four-more old c.push.new.self c.push-2.new.self c.push-3.new.self c.in_ok-label.field-0 c.in_ok-sent_tag.field-0 c.in_ok-name.field-0 c.in_ok-name_list.field-0
    (label_of names decls c.args.label) (sent_tag names decls c.args.label c.args.tag) (name_of names c.args.sender) (listed (map (name_of names) c.args.args.now))
    c.in_ok-push.ensures.ok c.in_ok-push-2.ensures.ok c.in_ok-push-3.ensures.ok c.in_ok-label.ensures c.in_ok-sent_tag.ensures c.in_ok-name.ensures c.in_ok-name_list.ensures)
