-- Lemmas of rows.
mod HubSeats
