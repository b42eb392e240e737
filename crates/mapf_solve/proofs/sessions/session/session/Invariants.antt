use Rattle.mapf_board.specs.Owners.{board_of}
use Rattle.mapf_solve.proofs.sessions.session.session.Given as goal

abbrev pub ghosts-session_at : goal.ghosts-session_at
ghosts-session_at g a = record { board = board_of a.live }
