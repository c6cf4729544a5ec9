-- The text of what sessions were answered.
use Rattle.std.specs.Prelude.{◌+◌, ℕ, List, [], ◌∷◌, ◌++◌, map, codes, decimal}
use Rattle.session_machine.specs.declared.replies.Reply.{Reply}
use Rattle.report_writer.specs.FaultLines.{spaced}
use Rattle.report_writer.specs.Replies.{reply_text}

-- `order`, and the session numbers of the order
abbrev pub order_line : List ℕ → List ℕ
order_line order = codes "order" ++ spaced (map decimal order) ++ codes "\n"

-- `N REPLY` for each reply of a session, the first of which has the number
unfoldable pub reply_lines : ℕ → List Reply → List ℕ
reply_lines number [] = []
reply_lines number (reply ∷ more) = decimal number ++ codes " " ++ reply_text reply ++ codes "\n" ++ reply_lines (number + 1) more

-- `session S` and its replies, counted from 1
abbrev pub session_text : ℕ → List Reply → List ℕ
session_text session replies = codes "session " ++ decimal session ++ codes "\n" ++ reply_lines 1 replies

-- the text of each session, the first of which has the number
unfoldable pub session_texts : ℕ → List (List Reply) → List ℕ
session_texts session [] = []
session_texts session (replies ∷ more) = session_text session replies ++ session_texts (session + 1) more

-- the whole text: the order, then the sessions, counted from 1
abbrev pub serve_text : List ℕ → List (List Reply) → List ℕ
serve_text order sessions = order_line order ++ session_texts 1 sessions
