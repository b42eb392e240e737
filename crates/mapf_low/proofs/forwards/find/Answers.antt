use Rattle.mapf_low.proofs.forwards.Found.{found_linked, found_own, found_none}
use Rattle.mapf_low.proofs.forwards.find.Goals as goal

pub read_path-requires-clause-linked : goal.read_path-requires-clause-linked
read_path-requires-clause-linked c =
    found_linked c.args.query.now c.in_ok-searched.searched.nearest c.in_ok-searched.searched.levels.items c.in_ok-searched.ensures.posed c.requires
    c.in_ok-searched.searched.end c.in-Some.end c.in-Some.is c.in_ok-searched.ensures.searched

pub returns-in_default-clause-path : goal.returns-in_default-clause-path
returns-in_default-clause-path c =
    found_none c.args.query.now c.in_ok-searched.searched.nearest c.in_ok-searched.searched.levels.items c.in_ok-searched.ensures.posed c.requires
    c.in_ok-searched.searched.end c.in_default.is c.in_ok-searched.ensures.searched

pub returns-clause-path : goal.returns-clause-path
returns-clause-path c =
    found_own c.args.query.now c.in_ok-searched.searched.nearest c.in_ok-searched.searched.levels.items c.in_ok-searched.ensures.posed c.requires
    c.in_ok-searched.searched.end c.in-Some.end c.in_ok-path.path c.in-Some.is c.in_ok-searched.ensures.searched c.in_ok-path.ensures
