-- Cited by private contracts alone: the first words of the lines that have only numbers behind them.
use Rattle.std.specs.Prelude.{ℕ, List, codes}
use Rattle.gs_schedule.specs.declared.keyword.Keyword.{Keyword}
use Rattle.gs_schedule.specs.declared.keyword.Keyword.TheVariants.{Session, Cap, Send, Video, Audio, Videos, Up, Down}
use Rattle.gs_schedule.specs.declared.keyword.Keyword.TheVariants.{Idr, Time, Pump, Close, Reset}

abbrev pub keyword_text : Keyword → List ℕ
keyword_text Session = codes "session"
keyword_text Cap = codes "cap"
keyword_text Send = codes "send"
keyword_text Video = codes "video"
keyword_text Audio = codes "audio"
keyword_text Videos = codes "videos"
keyword_text Up = codes "up"
keyword_text Down = codes "down"
keyword_text Idr = codes "idr"
keyword_text Time = codes "time"
keyword_text Pump = codes "pump"
keyword_text Close = codes "close"
keyword_text Reset = codes "reset"
