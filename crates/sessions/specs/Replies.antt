-- What a reply prints.
use Rattle.std.specs.Prelude.{ℕ, true, false, List, ◌∷◌, ◌++◌, codes}
use Rattle.std.specs.Fmt.{decimal}
use Rattle.sessions.specs.declared.reply.Reply.{Reply}
use Rattle.sessions.specs.declared.reply.Reply.TheVariants.{Unit as UnitReply, Id, Done, Told}

-- the words of a reply
abbrev pub reply_text : Reply → List ℕ
reply_text (UnitReply u) = codes "unit " ++ decimal u
reply_text (Id x) = codes "id " ++ (decimal x.unit ++ 32 ∷ decimal x.entry)
reply_text Done = codes "ok"
reply_text (Told true) = codes "yes"
reply_text (Told false) = codes "no"
