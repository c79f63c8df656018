use Rattle.type_graph.proofs.views.view_of_peeled.Goals as goal

pub role_of-role-requires : goal.role_of-role-requires
role_of-role-requires g c = c.requires.closed.inside c.args.c c.requires.there

pub kind_of-kind-requires-clause-inside : goal.kind_of-kind-requires-clause-inside
kind_of-kind-requires-clause-inside g c = c.requires.closed.inside c.args.c c.requires.there

pub is_declaration-requires : goal.is_declaration-requires
is_declaration-requires g c = c.requires.closed.inside c.args.c c.requires.there

pub tag-requires : goal.tag-requires
tag-requires g c = c.requires.closed.inside c.args.c c.requires.there

pub group-requires-clause-inside : goal.group-requires-clause-inside
group-requires-clause-inside g c = c.requires.closed.inside c.args.c c.requires.there
