-- How a soup is kept.
use Rattle.std.specs.Prelude.{◌≡◌, ◌≤◌}
use Rattle.dl_model.specs.Delivery.{drawn}
use Rattle.dl_soup.specs.declared.soup.Soup.TheInside.{Inside}
use Rattle.dl_soup.specs.Seen.{Seen}
use Rattle.dl_soup.specs.Kept.{IsKept}
use Rattle.dl_soup.specs.Replies.{receives_in, seed_of}

abbrev pub seen_of : Inside → Seen
seen_of soup = record {
  inst = soup.inst;
  shape = soup.shape;
  order = soup.order;
  state = soup.pool.state;
  history = soup.history.entries;
  spare = soup.history.spare;
}

-- the generator has made a turn for each receive of the history
pub record SoupIsKept (soup : Inside) : Type 0 where
  pub kept : IsKept (seen_of soup)
  pub turn : soup.turn ≡ drawn (seed_of soup.order) (receives_in soup.history.entries)
  pub room : soup.history.spare ≤ soup.pool.spare
